pub mod Start
pub mod Tables
