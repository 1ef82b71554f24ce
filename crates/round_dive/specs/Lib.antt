pub mod Feasible
pub mod Rounds
pub mod Dives
pub mod Laws
