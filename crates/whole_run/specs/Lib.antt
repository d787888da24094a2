-- An answer as a number, and the checksum of answers;
pub mod Checksums
-- what a whole run returns and leaves.
pub mod Runs
