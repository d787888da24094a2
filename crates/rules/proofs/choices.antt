-- One choice, and a list of them. Reading order:
-- lists of answers;
pub mod Answers
-- what a machine is like whose numbers are in range;
pub mod SoundMachines
-- the cases of a choice there;
pub mod Cases
-- what an accepted choice has passed, in any machine;
pub mod Accepting
-- what a choice does there: refused, it changes nothing;
pub mod Outcomes
-- an offer, and the taking of what was offered;
pub mod Offered
-- two choices in either order;
pub mod Swapping
-- each kind of move keeps the invariant;
pub mod Moves
-- every choice is refused, not with 14, or makes a move;
pub mod Steps
-- so it leaves a machine that the invariant holds of;
pub mod Stands
-- the invariant holds at opening;
pub mod Opening
-- one choice after a list of them;
pub mod Joined
-- the numbers of refusals;
pub mod Numbers
-- a run as a trace of its moves;
pub mod Trace
-- the worker that goes with a line;
pub mod Workers
-- a line listed alone, by that worker;
pub mod LineAlone
-- a draw of a line and that worker;
pub mod Drawing
-- and events without their workers.
pub mod WithoutWorker
