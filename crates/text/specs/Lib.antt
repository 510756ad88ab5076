pub mod Lines
pub mod Numbers
pub mod Digits
pub mod Texts
pub mod Machines
