pub mod Draws
pub mod Wholes
pub mod Knapsacks
pub mod Samples
pub mod Laws
