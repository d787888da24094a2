-- The plan file (01, "The plan file" and "When the engine says no", 1 to 7). Reading order: a plan, when it
-- is valid, and its file, whose two-byte fields are those of `fields`;
pub mod Plan
-- the checks: one after the other, of the trailer, of the pipe bytes, of the records;
pub mod Checks
pub mod Trailer
pub mod Pipes
pub mod Records
-- and what reading a file must answer.
pub mod Reading
