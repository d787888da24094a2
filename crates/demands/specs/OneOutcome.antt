-- Two calls of `choose` with the same state, memory, worker and line: "every choice, refused ones too, answers and leaves what it did"
-- (02, 2.4). One may be of another program, if it ensures the same.
use Rattle.std.specs.Prelude.{◌≡◌, List, ℕ}
use Rattle.rules.specs.Answers.{answer_of}
use Rattle.engine.specs.declared.Chosen.{Chosen}

-- they gave the same answer, and left the same state and memory
pub record SameOutcome (r r' : Chosen) (m m' : List ℕ) : Type 0 where
  pub answers : answer_of r.answer ≡ answer_of r'.answer
  pub states : r.state ≡ r'.state
  pub memories : m ≡ m'
