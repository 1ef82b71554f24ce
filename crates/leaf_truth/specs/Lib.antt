pub mod Steps
pub mod Multipliers
pub mod Rooms
pub mod Leaves
pub mod Laws
