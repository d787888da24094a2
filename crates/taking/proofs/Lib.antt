-- The proofs of taking: what holds a token, by the tests of the code, and what a fill of standings is.
mod Filling
mod Holds
