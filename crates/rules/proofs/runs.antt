-- Whole runs, from their traces. Reading order:
-- when a run has ended;
pub mod Ending
-- before its end a choice is allowed;
pub mod Progress
-- its order is a first part of the sheet;
pub mod Order
-- two choices for each token and pipe, and one to stop;
pub mod Count
-- the end state;
pub mod Final
-- each place once at each pipe;
pub mod Marks
-- the one-worker run, and lines listed alone where there is one worker;
pub mod OneWorker
pub mod LinesAlone
-- no worker runs two lines;
pub mod OneLineEach
-- so lines listed alone answer as in document 01;
pub mod LineAnswers
-- the theorem: all of `WholeRun`;
pub mod WholeRuns
-- the accepted choices of a list, by themselves;
pub mod AcceptedOnly
-- the same choices under a larger limit;
pub mod MoreWorkers
-- two choices in either order;
pub mod Swapping
-- the marking of a journal;
pub mod Journals
-- and tokens finish a serial pipe in the sheet's order.
pub mod Finishers
