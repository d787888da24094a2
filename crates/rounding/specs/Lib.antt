-- The numbers of the rounding code as the paper's. Reading order: bases;
pub mod Bases
-- what a cell's passing comes to;
pub mod Passings
-- the rounding of a run;
pub mod Roundings
-- the run with it;
pub mod Runs
-- its opening;
pub mod Openings
-- and what a choice does to it.
pub mod Settlings
