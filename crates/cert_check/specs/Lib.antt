pub mod Nodes
pub mod Verdicts
pub mod Walks
pub mod Reasons
