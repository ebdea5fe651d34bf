pub mod Handles
pub mod Rows
pub mod Viewed
pub mod Slots
