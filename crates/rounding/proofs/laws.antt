-- The bases are the paper's;
pub mod Bases
-- so are the ranges,
pub mod Ranges
-- so is the opening,
pub mod Openings
-- and so is what a choice does.
pub mod Settlings
