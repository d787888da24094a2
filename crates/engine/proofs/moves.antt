-- A choice, proved part by part. Reading order:
-- what the tables' answers tell, and that N stays as it is;
pub mod Kept
-- the machine of a state with some new parts, and a refusal;
pub mod Parts
-- a start;
pub mod StartLaws
-- a finish;
pub mod FinishLaws
-- the choice;
pub mod ChooseLaws
-- and the taking of a record.
pub mod TakeLaws
