-- Loading a plan. Reading order:
-- what is known of a file that was read;
pub mod PlanRead
-- the cases, as the code meets them.
pub mod LoadCases
