-- Every run of a plan with rounding is as the rounding paper says;
pub mod RoundedPlans
-- what the code returns, to the last number;
pub mod OneRun
-- so is every session of the code;
pub mod CodeRounding
-- an offer and its taking are the choice;
pub mod CodeRoundedOffers
-- and so are its figures.
pub mod CodeFigures
