-- The definitions of specs/, case by case, as the code meets them. Reading order:
-- taking a token;
pub mod TakingLaws
-- the scan for the cells that watch a number, and what is picked by them;
pub mod ScanLaws
pub mod SiftLaws
-- a token's finish, by the tally of the tokens that watch it;
pub mod ReleasingLaws
-- numbers moved to lower cells;
pub mod MovingLaws
-- the loops of a finish;
pub mod Tallying
pub mod Renewing
pub mod Queueing
pub mod Closing
pub mod Marking
-- these loops one after the other;
pub mod Moves
-- the public calls, by the test of the ranges.
pub mod CallLaws
