-- "Plans with known orders";
pub mod KnownOrders
-- the example of lines listed alone;
pub mod LinesAlone
-- its choices under other limits (02, 2.12);
pub mod MoreWorkers
-- two choices in either order, also from states that no run leaves;
pub mod Swapping
-- and twenty cells of 2, rounded (02, 2.2).
pub mod TwentyCells
