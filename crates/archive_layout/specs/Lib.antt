pub mod Fit
pub mod Walks
pub mod Keys
pub mod Loads
pub mod Promises
pub mod Founds
