pub mod Bounded
pub mod Choices
pub mod Local
pub mod Refusing
