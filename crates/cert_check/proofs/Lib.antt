pub mod Examples
pub mod CutRows
pub mod Faultless
pub mod Truth
pub mod Walking
pub mod Looping
