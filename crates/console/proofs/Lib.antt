pub mod Counted
pub mod Left
pub mod Names
pub mod BeBytes
pub mod Gathered
pub mod Packing
pub mod Spaced
mod Further
mod Echoes
