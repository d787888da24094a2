-- Lists and arithmetic that several crates count with. Reading order:
-- tests, by their two outcomes;
pub mod Tests
-- tests that hold, each of several;
pub mod Holding
-- a test of each number below a bound;
pub mod EveryBelow
-- sums, and how many numbers pass a test;
pub mod Sums
-- how often a number comes in a list;
pub mod Counting
-- what a list has, keeps and leaves out;
pub mod Members
-- a list longer than its numbers are small has one twice;
pub mod Pigeonhole
-- a property of every element;
pub mod EveryLaws
-- where a number stands in a list;
pub mod Places
-- a number after one was written;
pub mod Stores
-- lists of a function's first values;
pub mod ListTables
-- places go round the lines;
pub mod Rotation
-- the rows of all slots.
pub mod SlotRows
