-- The ranges of a state. Reading order:
-- tests of the numbers below a bound, in parts and row by row;
pub mod Rows
-- the highest of some numbers, and tests of it;
pub mod Highest
-- the flags, the counters and the slots, those of the plan's lines and the unused ones;
pub mod FlagLaws
pub mod CounterLaws
pub mod SlotLaws
-- the code's tests, one after another, are the rules' ranges;
pub mod RangeLaws
-- and what a look over the state tells.
pub mod SurveyLaws
