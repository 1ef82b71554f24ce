pub mod AcceptedChecks
pub mod AcceptedFiles
pub mod Examples
pub mod Running
pub mod TrueAnswers
