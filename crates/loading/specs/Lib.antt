-- Loading a plan into lent memory. Reading order: what the rules make of a plan;
pub mod Plans
-- the memory that loading leaves;
pub mod Layout
-- and loading with its refusals.
pub mod Loading
