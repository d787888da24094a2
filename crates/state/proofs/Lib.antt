-- The proofs of the state: what its ranges tell.
pub mod in_range
