mod Fitting
pub mod Turning
