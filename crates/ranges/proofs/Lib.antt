-- The proofs of the look over a state.
pub mod in_range
