-- Fields and their bytes.
pub mod Fields
