pub mod Buffers
pub mod Places
pub mod Tags
