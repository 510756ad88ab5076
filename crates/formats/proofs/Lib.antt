pub mod Bytes
pub mod Belows
pub mod Instructions
pub mod Records
pub mod Sents
