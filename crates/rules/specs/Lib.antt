pub mod Faults
pub mod State
pub mod Calls
pub mod Steps
pub mod Turns
pub mod History
pub mod Told
pub mod Law
