pub mod Certificates
pub mod Places
pub mod Readings
pub mod Refusals
pub mod Laws
