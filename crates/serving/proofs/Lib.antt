-- A walk along the lines of a text;
pub mod Walk
-- the lines of a text that is cut anywhere;
pub mod Cutting
-- and a walk that moves bytes to the front of a buffer.
pub mod Moving
