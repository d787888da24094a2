-- A journal's records, as the code reads them;
pub mod Steps
-- and some, computed.
pub mod Examples
