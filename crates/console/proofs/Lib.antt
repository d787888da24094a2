-- The input in its buffer;
pub mod Inputs
-- the console;
pub mod Consoles
-- a turn of the program, each case by case;
pub mod Turns
-- and the texts that it reads, one behind the other.
pub mod Texts
