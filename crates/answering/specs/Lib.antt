-- The lines of the answers;
pub mod Lines
-- and what a command makes of the console.
pub mod Answers
