-- Related sources. Reading order: a run over a source that follows another goes as the run over that one, and W has no part in a move;
pub mod Following
-- what a source keeps, a run over it keeps.
pub mod Keeping
