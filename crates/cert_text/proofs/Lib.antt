pub mod Truths
pub mod Pieces
pub mod Runs
pub mod GivenLines
pub mod Judging
pub mod RoundTrips
pub mod Printing
pub mod Examples
