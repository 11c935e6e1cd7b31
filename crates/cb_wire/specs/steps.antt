pub mod ReadBodies
pub mod ReadHeads
pub mod Segments
pub mod Runs
