-- Runs with rounding. Reading order: what holds of a plan's runs;
pub mod RoundedPlans
-- of runs of the code, whatever is lent to each choice;
pub mod CodeRounding
-- an offer, and the taking of what was offered;
pub mod CodeRoundedOffers
-- and of those with the same cells throughout and the figures handed on.
pub mod CodeFigures
