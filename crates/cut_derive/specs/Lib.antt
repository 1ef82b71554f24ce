pub mod Refusals
pub mod Gomory
pub mod Covers
pub mod Chosen
pub mod Derivations
pub mod Premises
pub mod Laws
