pub mod CoreTables
mod Hosts
pub mod Making
pub mod Playing
pub mod Stepping
