-- Numbers in a row, as they are read;
pub mod Arguments
-- what a line asks for, case by case;
pub mod Lines
-- what follows `open`;
pub mod Openings
-- where its path starts;
pub mod Paths
-- and some lines, computed.
pub mod Examples
