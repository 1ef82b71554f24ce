pub mod Examples
pub mod Keys
pub mod OutputWrites
pub mod PieceWrites
pub mod Risen
pub mod WholeReads
