-- What rounding says of a choice before it is made;
pub mod LeaveLaws
-- the choice with it, case by case;
pub mod ChoiceLaws
-- and what the calls return.
pub mod Calls
