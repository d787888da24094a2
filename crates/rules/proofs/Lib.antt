-- The theorems about the rules, by topic. Reading order: counting in lists, and places that go round the lines;
pub mod lists
-- the plain sheet;
pub mod sheet
-- the pipeline over any source of tokens: how a run is accounted for, the invariant, one choice;
pub mod standing
pub mod invariant
pub mod choices
-- related sources give related runs;
pub mod sources
-- whole runs;
pub mod runs
-- and runs with rounding.
pub mod rounding
