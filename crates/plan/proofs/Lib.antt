-- The reader reads exactly the files of valid plans. Reading order: what a passed check tells, and what makes it pass;
pub mod Facts
-- what a range tells of a number in it;
pub mod Ranges
-- the checks one step at a time, as the code makes them,
pub mod Steps
-- and a running total that is too large;
pub mod Totals
-- what passes is the file of a valid plan;
pub mod SoundParts
pub mod Sound
-- the file of a valid plan passes;
pub mod CompleteParts
pub mod Complete
-- the theorem.
pub mod Theorem
