pub mod Asked
pub mod Runs
pub mod Seen
pub mod Told
