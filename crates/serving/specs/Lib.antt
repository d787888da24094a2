-- The lines of a text;
pub mod Lines
-- and what answering them makes of the console.
pub mod Serving
