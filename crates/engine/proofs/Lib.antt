-- The proofs of the engine, by topic. Reading order: a choice;
pub mod moves
-- and a list of choices, one at a time.
pub mod Feeding
