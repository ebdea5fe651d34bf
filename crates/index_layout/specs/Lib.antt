pub mod Links
pub mod Views
pub mod Held
pub mod Candidates
pub mod Marks
