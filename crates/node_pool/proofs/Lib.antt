pub mod Counts
pub mod Names
pub mod OpenNodes
pub mod Origins
pub mod Paths
pub mod WorkedRows
