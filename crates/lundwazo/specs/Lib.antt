pub mod Exports
pub mod Lent
