pub mod Values
pub mod Packed
pub mod Examples
pub mod Witnesses
pub mod Limits
