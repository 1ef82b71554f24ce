pub mod Values
pub mod Children
pub mod Reasons
pub mod Covers
pub mod Within
pub mod Corners
pub mod Stepping
pub mod Examples
