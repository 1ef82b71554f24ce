pub mod Boxes
pub mod Cuts
pub mod Joining
pub mod Orders
