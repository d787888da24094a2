-- The rounding paper (02, 2.2). Reading order: published sums;
pub mod Sums
-- an opening;
pub mod Opening
-- one choice, by cases;
pub mod Choice
-- what an accepted one has passed;
pub mod Accepting
-- an offer, and the taking of what was offered;
pub mod Offered
-- the tokens that pass;
pub mod Passers
-- a choice keeps to the run without rounding;
pub mod Steps
-- a list of choices;
pub mod Following
-- refused choices play no part in demand 3;
pub mod Unrefused
-- the theorem: all of `RoundedRun`;
pub mod RoundedRuns
-- with proper cells throughout it is a run without rounding;
pub mod Plain
-- figures handed on;
pub mod Figures
-- runs with the same cells throughout;
pub mod CarriedRuns
-- the accepted choices of a list, by themselves;
pub mod AcceptedOnly
-- the same choices under a larger limit;
pub mod MoreWorkers
-- and two choices in either order.
pub mod Swapping
