-- A choice made by an offer and the taking of what was offered.
pub mod Taking
