-- Marking a journal, of the code.
pub mod Marking
