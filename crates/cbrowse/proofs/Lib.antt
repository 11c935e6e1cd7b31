mod Buffers
pub mod Editors
pub mod Narrowing
mod Process
pub mod Tagsfiles
pub mod Working
