-- An opening with rounding. Reading order: its cases, as the code meets them;
pub mod Cases
-- and what an accepted or a refused one leaves, for callers.
pub mod Opens
