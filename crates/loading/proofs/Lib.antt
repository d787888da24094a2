-- The proofs of loading, by topic. Reading order: the memory that it lays out;
pub mod memory_laid
-- and loading a plan.
pub mod loading
