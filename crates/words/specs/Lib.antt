-- Words of a line;
pub mod Words
-- and the numbers that words are.
pub mod Numbers
