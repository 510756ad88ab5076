pub mod Answers
pub mod Refusals
pub mod Bytes
pub mod Belows
pub mod Registers
pub mod Instructions
pub mod Records
pub mod Sents
