-- The demands hold of every run. Reading order: what stands where in the memory that opening lays out;
pub mod LaidMemory
-- what a valid plan's memory holds, and that its pipeline is within its ranges;
pub mod ValidPlans
-- what a list of events tells of one that came in it;
pub mod Events
-- every run of a plan is as the demands say;
pub mod Demands
-- when an opening is accepted, and what it leaves then;
pub mod Opens
-- a refused choice leaves state and memory as they were;
pub mod Unchanged
-- and what one does is told by its contract, to the last number;
pub mod OneOutcome
-- answers that stand for one are one;
pub mod OneAnswer
-- so an offer and its taking are the choice;
pub mod CodeOffers
-- every session of the code is as the demands say;
pub mod CodeRuns
-- its choices do the same under a larger limit;
pub mod MoreWorkers
-- two after it do the same in either order;
pub mod Swapping
-- and a journal is marked as the choices that give its events say.
pub mod CodeJournals
