pub mod Queues
pub mod KeyHeaps
pub mod Merges
pub mod Steps
pub mod Laws
