pub mod PackedList
pub mod Accepted
pub mod Programs
pub mod Reading
