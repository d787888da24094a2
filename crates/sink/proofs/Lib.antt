-- Texts that are put one after another.
pub mod Putting
