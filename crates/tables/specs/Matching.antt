-- When the tables in memory stand for the tables of the rules.
use Rattle.std.specs.Prelude.{◌≡◌, Bool, true, false, not, List, [], ◌∷◌, ◌++◌, ℕ, ◌+◌, ◌-◌, ◌<◌, ◌≤◌, eqb, length, take, drop, Ok}
use Rattle.rules.specs.Lists.{keep, has, empty, times, Every}
use Rattle.rules.specs.TakingTokens.{Held, tokens_of}
use Rattle.rules.specs.TakingTokens as rules
use Rattle.tables.specs.Layout.{lent, no_mark, deferred_mark, ready_mark, finished_mark, facts_of}
use Rattle.tables.specs.Facts.{part, standing_of, numbers_of}
use Rattle.tables.specs.State.{State, InRange, table_of, watches_of, queue_of}

-- a state with more memory lent
abbrev pub beyond : List ℕ → State → State
beyond more x = (x.0, x.1 ++ more)

-- a token's record is good and lists these numbers
abbrev pub Recorded : List ℕ → ℕ → List ℕ → Type 0
Recorded f n ns = (a : ℕ) × (b : ℕ) × (numbers_of f n ≡ Ok (part a b)) × (take (b - a) (drop a f) ≡ ns)

-- a deferred token waits for the numbers of its record that have not finished pipe 0, and there are some
abbrev pub Waits : (ℕ → List ℕ) → (ℕ → ℕ) → Held → Type 0
Waits numbers standing h = (h.due ≡ keep (λ n. not (eqb (standing n) finished_mark)) (numbers h.token)) × (empty h.due ≡ false)

-- each watch is one of the numbers that its token still waits for
abbrev pub Watched : List Held → List ℕ → Type 0
Watched [] [] = Unit {0}
Watched [] (w ∷ ws) = ⊥
Watched (h ∷ hs) [] = ⊥
Watched (h ∷ hs) (w ∷ ws) = (has h.due w ≡ true) × Watched hs ws

-- the standings fit the rules' tables, while some tokens, which `out` tells, were taken and have not finished pipe 0
pub record Standing (numbers : ℕ → List ℕ) (a : rules.Tables) (standing : ℕ → ℕ) (out : ℕ → Bool) : Type 0 where
  -- what each token of the deferred table waits for
  pub waiting : Every (Waits numbers standing) a.deferred
  -- the deferred table and the ready queue are the tokens with these standings, and none is there twice
  pub marked : (n : ℕ) → has (tokens_of a.deferred) n ≡ eqb (standing n) deferred_mark
  pub queued : (n : ℕ) → has a.ready n ≡ eqb (standing n) ready_mark
  pub once : (n : ℕ) → times n (tokens_of a.deferred) + times n a.ready ≤ 1
  -- a number not yet taken has none, a token taken and in neither has finished pipe 0, unless it is out
  pub fresh : (n : ℕ) → a.count ≤ n → standing n ≡ no_mark
  pub settled :
      (n : ℕ) → n < a.count → has (tokens_of a.deferred) n ≡ false → has a.ready n ≡ false → out n ≡ false → standing n ≡ finished_mark
  pub outside : (n : ℕ) → out n ≡ true → (standing n ≡ no_mark) × (n < a.count)

-- the tables in memory stand for the rules' tables
pub record Match (tokens : ℕ) (numbers : ℕ → List ℕ) (a : rules.Tables) (x : State) (out : ℕ → Bool) : Type 0 where
  pub range : InRange x.0
  pub whole : lent ≤ length x.1
  pub size : x.0.tokens ≡ tokens
  pub count : x.0.count ≡ a.count
  -- each token became ready at most once, and none is deferred after it
  pub room : x.0.end + x.0.held ≤ x.0.count
  pub queue : queue_of x.0 x.1 ≡ a.ready
  pub table : table_of x.0 x.1 ≡ tokens_of a.deferred
  pub watched : Watched a.deferred (watches_of x.0 x.1)
  pub records : (n : ℕ) → n < tokens → Recorded (facts_of x.1) n (numbers n)
  pub standing : Standing numbers a (standing_of (facts_of x.1)) out

-- no token is out; this one is
abbrev pub nobody : ℕ → Bool
nobody n = false

abbrev pub only : ℕ → ℕ → Bool
only t n = eqb t n
