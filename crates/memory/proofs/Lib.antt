pub mod Backings
pub mod Fronts
pub mod Quads
