pub mod Calls
pub mod Kinds
pub mod Replies
pub mod Settings
pub mod Playing
pub mod Export
