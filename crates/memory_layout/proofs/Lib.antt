pub mod Room
pub mod Store
pub mod Keeps
pub mod Seen
pub mod Appends
pub mod Reading
pub mod Prune
pub mod Fresh
