-- The checksum of a list of choices, one choice at a time.
pub mod Summing
