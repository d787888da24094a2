-- Whether a run goes on;
pub mod Begun
-- and what is printed before and after its choices.
pub mod Printed
