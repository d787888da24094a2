-- Choices in bytes.
pub mod Choices
