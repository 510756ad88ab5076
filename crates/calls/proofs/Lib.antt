pub mod Pairs
pub mod Played
