-- The paper's words as numbers and kinds. Reading order: by a test;
pub mod Branches
-- the numbers of the refusals ("When the engine says no");
pub mod Refusals
-- the kinds of pipes ("The plan file");
pub mod PipeKinds
-- and events as values and as records of numbers (02, 2.3 and 2.6).
pub mod Events
