pub mod Appends
pub mod Keys
pub mod Words
pub mod Reads
pub mod Writable
pub mod WordLaws
pub mod Histories
pub mod Taskers
