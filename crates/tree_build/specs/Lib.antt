pub mod Histories
pub mod Partings
pub mod ProofTrees
pub mod FirstRecords
pub mod Certificates
pub mod Laws
