pub mod Numbers
pub mod Layout
pub mod Decode
pub mod Mount
pub mod State
pub mod Well
