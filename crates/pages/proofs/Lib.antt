pub mod Answering
pub mod Checking
