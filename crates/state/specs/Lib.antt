-- What a state stands for;
pub mod Machines
-- and the end.
pub mod Ending
