pub mod Boxes
pub mod Search
pub mod Cover
