-- What holds of a run after any list of choices. Reading order:
-- counters by line and pipe;
pub mod Counters
-- the invariant: counters, slots and source are those that the account says;
pub mod Invariant
-- how many lines run;
pub mod Tally
-- the slots after a move;
pub mod Slots
-- every number is within its range;
pub mod Sound
-- the source between a take and a finish.
pub mod Feeding
