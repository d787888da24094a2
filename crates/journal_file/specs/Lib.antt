-- A journal's records in a file.
pub mod Records
