pub mod Bytes
pub mod Rows
pub mod Laws
pub mod Refusals
pub mod Walks
pub mod Sorted
pub mod Pages
pub mod Search
