pub mod Backing
pub mod Bytes
pub mod Places
pub mod Ring
pub mod Waiting
