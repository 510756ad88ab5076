pub mod Codes
pub mod Entries
pub mod Programs
