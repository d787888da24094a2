-- An opening with rounding. Reading order: its answer, the run, the memory and the figures;
pub mod RoundedOpenings
-- and what an accepted one is to the rules.
pub mod OpenedRounded
