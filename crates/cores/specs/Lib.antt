pub mod Onwards
pub mod Records
pub mod Bounds
pub mod Buffers
pub mod Cores
pub mod Shareds
pub mod Steps
