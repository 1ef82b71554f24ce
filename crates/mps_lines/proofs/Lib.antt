pub mod Truths
pub mod Cutting
pub mod Visible
