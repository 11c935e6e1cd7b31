pub mod Anchors
pub mod Escapes
pub mod Follows
pub mod ItemLemmas
pub mod OneLine
pub mod Places
pub mod Prefixes
