-- Several numbers in a row;
pub mod Arguments
-- and the console's commands.
pub mod Commands
