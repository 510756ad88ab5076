pub mod CoreTables
pub mod Engines
pub mod Lending
