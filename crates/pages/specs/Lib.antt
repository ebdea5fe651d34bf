pub mod Raws
pub mod Journals
pub mod Lengths
pub mod Looks
