-- Standard input in its buffer;
pub mod Inputs
-- the console;
pub mod Consoles
-- and what the program does with both, turn by turn.
pub mod Turns
