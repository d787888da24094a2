-- Runs computed quickly;
mod QuickRuns
-- the cases hold of the rules;
pub mod KnownOrders
-- so do the example of lines listed alone,
pub mod LinesAlone
-- its choices under other limits,
pub mod MoreWorkers
-- and two choices in either order;
pub mod Swapping
-- and so do plan files, those that are read and one for each refusal.
pub mod PlanFiles
-- An example of rounding.
pub mod TwentyCells
