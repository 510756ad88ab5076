pub mod Backing
pub mod Bytes
pub mod Shared
pub mod Words
