-- The proofs about the tables in memory, by topic. Reading order: the cells of the memory, and what it says of each token;
pub mod memory
-- the definitions of specs/ as the code's proofs meet them;
pub mod code
-- the tables in memory stand for the rules' tables, and taking and a token's finish keep that;
pub mod matching
-- and so, as a source of tokens, they give what the rules' tables give.
pub mod sources
