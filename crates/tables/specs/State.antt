-- The tables with their memory, their ranges, and lists of tokens in them.
use Rattle.std.specs.Prelude.{Bool, List, [], ◌∷◌, ℕ, ◌+◌, ◌-◌, ◌≤◌, leb, length, set}
use Rattle.std.proofs.Math.Seq.{slice}
use Rattle.rules.specs.Lists.{all, range}
use Rattle.tables.specs.declared.Tables.{Tables}
use Rattle.tables.specs.Layout.{standing_at, deferred_at, watches_at, ready_at, lent, most_tokens}

-- the tables' numbers, and the lent memory
abbrev pub State : Type 0
State = Tables × List ℕ

-- every number of the tables is within its range
pub record InRange (t : Tables) : Type 0 where
  pub tokens : t.tokens ≤ most_tokens
  pub count : t.count ≤ t.tokens
  pub queue : t.first ≤ t.end
  pub end : t.end ≤ most_tokens
  pub held : t.held ≤ most_tokens

-- "14 if fewer than 32,768 numbers are lent or a number in state or memory is outside its range": here neither
unfoldable pub sound_of : State → Bool
sound_of x =
    let (t, m) = x in
    all
    (leb lent (length m)
    ∷ leb t.tokens most_tokens
    ∷ leb t.count t.tokens
    ∷ leb t.first t.end
    ∷ leb t.end most_tokens
    ∷ leb t.held most_tokens
    ∷ [])

-- the tables at opening, for N tokens: "Count 0 and the rest empty"
abbrev pub opened_tables : ℕ → Tables
opened_tables n = record { tokens = n; count = 0; first = 0; end = 0; held = 0 }

-- the tokens from i up to, not including, n
abbrev pub span : ℕ → ℕ → List ℕ
span i n = range i (n - i)

-- the memory with a new standing for each of some tokens
unfoldable pub marks : List ℕ → ℕ → List ℕ → List ℕ
marks m v [] = m
marks m v (t ∷ ts) = marks (set m (standing_at + t) v) v ts

-- the deferred table, in the order entered
abbrev pub table_of : Tables → List ℕ → List ℕ
table_of t m = slice deferred_at (deferred_at + t.held) m

-- the watches, in step with it
abbrev pub watches_of : Tables → List ℕ → List ℕ
watches_of t m = slice watches_at (watches_at + t.held) m

-- the ready queue, oldest first
abbrev pub queue_of : Tables → List ℕ → List ℕ
queue_of t m = slice (ready_at + t.first) (ready_at + t.end) m
