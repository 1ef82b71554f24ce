pub mod Words
pub mod Numerals
pub mod Items
pub mod Readings
pub mod Lines
