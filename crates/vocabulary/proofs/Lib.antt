-- By a test that holds, or does not.
pub mod Branches
