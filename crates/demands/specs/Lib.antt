-- Runs of a plan. Reading order: the demands on every run;
pub mod Demands
-- an accepted opening, and what follows for every run from it;
pub mod OpenedRun
-- runs of the code, with what the demands say of them;
pub mod CodeRuns
-- two calls of `choose` with the same arguments (02, 2.4);
pub mod OneOutcome
-- an offer, and the taking of what was offered (02, 2.3);
pub mod CodeOffers
-- a session's choices under a larger limit, and two in either order (02, 2.12);
pub mod MoreWorkers
pub mod Swapping
-- and the marking of a journal (02, 2.6).
pub mod CodeJournals
