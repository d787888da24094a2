-- The ranges of a state. Reading order:
-- a walk that fills a list of zeros;
pub mod Filling
-- what a state in range tells: its lines are at pipes of the plan, and the code's test of the end is that of the rules.
pub mod SoundLaws
