-- The tables in memory stand for the rules' tables. Reading order:
-- what follows from standings that fit the rules' tables;
pub mod StandingLaws
-- taking by the rules, against the search for the first free token;
pub mod RuleTaking
-- a token's finish by the rules, against the tokens that wake by their records and the standings;
pub mod RuleReleasing
-- taking keeps the match;
pub mod MatchTaking
-- and so does a token's finish.
pub mod MatchReleasing
