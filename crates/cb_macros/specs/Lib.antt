pub mod Meeting
pub mod steps
