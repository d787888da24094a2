-- The plain sheet, proved. Reading order:
-- what holds of the tables between its steps, and that taking and finishing keep it;
pub mod Taking
-- from such tables it closes;
pub mod Closing
-- the sheet: M ≤ N, distinct, on it or deferred and not both, each after all that it lists;
pub mod PlainSheet
-- a token stays deferred exactly if a chain meets a cycle or a number that never enters.
pub mod Blocking
