pub mod Faults
pub mod Meaning
pub mod Calls
pub mod Promises
pub mod Making
pub mod Bytes
pub mod Slots
