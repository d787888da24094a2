-- How a run is accounted for, in places. Reading order:
-- for each line its pipe and place, for each serial pipe how many have passed;
pub mod Standing
-- what a start changes of it;
pub mod Begin
-- what a finish changes of it.
pub mod Finish
