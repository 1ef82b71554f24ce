pub mod Weights
pub mod Bounds
pub mod Premises
pub mod Laws
