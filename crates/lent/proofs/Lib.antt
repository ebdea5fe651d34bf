pub mod Going
pub mod Limits
pub mod Saving
pub mod Taking
