-- The tables in memory as a source of tokens. Reading order:
-- the rules' tables and the memory together as one source, which each of the two follows;
pub mod Joint
-- what is lent beyond the first 32,768 numbers plays no part;
pub mod Beyond
-- the memory keeps its length;
pub mod SameLength
-- the tables in memory give the same tokens as the rules' tables.
pub mod Refines
