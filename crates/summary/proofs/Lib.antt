pub mod Adding
pub mod Laying
