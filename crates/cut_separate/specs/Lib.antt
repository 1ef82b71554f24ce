pub mod Violations
pub mod Candidates
pub mod Thresholds
pub mod Separation
pub mod Laws
