-- Walks through a text: to a stop, and along another text;
pub mod Walks
-- along digits;
pub mod Digits
-- and from word to word.
pub mod Splits
