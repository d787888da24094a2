-- The ranges of a state's numbers, in parts;
pub mod RangeParts
-- and what a look over the state tells.
pub mod Surveys
