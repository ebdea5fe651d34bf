pub mod ByPlace
pub mod Front
pub mod Sums
