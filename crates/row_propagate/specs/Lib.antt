pub mod Rounding
pub mod Passes
pub mod Replay
pub mod Lawful
pub mod Points
pub mod Kept
pub mod Moves
pub mod Quiet
