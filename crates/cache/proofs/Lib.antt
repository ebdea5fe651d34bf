pub mod Finds
pub mod Keeps
pub mod Serves
