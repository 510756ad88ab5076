pub mod Fives
pub mod Images
pub mod Rings
pub mod Turns
