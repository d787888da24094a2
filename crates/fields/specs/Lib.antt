-- Two-byte fields.
pub mod Bytes
