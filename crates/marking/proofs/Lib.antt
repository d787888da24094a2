-- Marking, as the code meets it;
pub mod StepLaws
-- and a journal's events, one by one.
pub mod WalkLaws
