pub mod Columns
pub mod Slots
pub mod Rows
pub mod Chains
