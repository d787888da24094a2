-- What rounding says of a choice before it is made;
pub mod Leaves
-- and what a choice of a run with its rounding returns.
pub mod Runs
