pub mod Endings
pub mod Files
pub mod Lists
pub mod Messages
pub mod Needs
pub mod Program
pub mod Tagsfile
pub mod Writes
