pub mod Lists
pub mod Fronts
pub mod Reading
pub mod ReadBack
pub mod WorkedRows
