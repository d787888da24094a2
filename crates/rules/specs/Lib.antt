-- The rules of documents 01 and 02 as definitions. Reading order: what they are written with;
pub mod Lists
-- "Taking tokens";
pub mod TakingTokens
-- "Choices and join counters", over any source of tokens;
pub mod Sources
pub mod RunState
pub mod Ranges
pub mod Choices
pub mod Answers
-- an offer, and the taking of what was offered (2.3);
pub mod Offers
-- the worker that goes with a line that is listed alone (2.14);
pub mod Workers
-- "The plain sheet and whole runs";
pub mod PlainSheet
pub mod Chains
pub mod WholeRuns
-- a list of choices under a larger limit, and two in either order (2.12);
pub mod MoreWorkers
pub mod Swapping
-- the marking of a written journal (2.6);
pub mod Journals
-- what it is for one source of tokens to do as another;
pub mod RelatedSources
-- "The rounding paper" (02, 2.2);
pub mod Rounding
pub mod RoundedRuns
-- with rounding, offers and takings, a list of choices under a larger limit, and two in either order;
pub mod RoundedOffers
pub mod RoundedWorkers
pub mod RoundedSwapping
-- and practice orders by number (2.5).
pub mod Practice
