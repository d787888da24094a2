-- The lent memory. Reading order:
-- spans of tokens, runs of stores and marks, and what they leave alone;
pub mod Cells
-- the test of the tables' ranges;
pub mod Ranges
-- the facts of a token, case by case;
pub mod FactsLaws
-- what the writes do to the standings, the records, the deferred table and the ready queue;
pub mod MemoryLaws
-- picked lists, and the watches after a finish;
pub mod PickLaws
-- how long the table and its watches are.
pub mod TableLaws
