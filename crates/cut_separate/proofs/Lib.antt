pub mod Examples
pub mod Keeping
pub mod Nearness
pub mod Trying
pub mod Taking
pub mod Separating
pub mod Violating
