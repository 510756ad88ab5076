pub mod Digits
pub mod Pairs
pub mod Tokens
pub mod Hexes
