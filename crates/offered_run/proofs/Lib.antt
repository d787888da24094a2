-- A choice made by an offer and a second call.
pub mod Offering
