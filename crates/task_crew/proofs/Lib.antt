pub mod Hands
pub mod Crews
pub mod Advances
pub mod Crossing
