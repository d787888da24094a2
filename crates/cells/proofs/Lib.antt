-- Cells in a file.
pub mod Cells
