pub mod Numbers
pub mod MpsModels
pub mod Prints
