-- Taking tokens (01, "Taking tokens"): Count, the ready queue and the deferred table.
use Rattle.std.specs.Prelude.{Bool, true, not, List, [], ◌∷◌, ◌++◌, map, ℕ, zero, suc, ◌-◌, leb, eqb}
use Rattle.rules.specs.Lists.{if, keep, has, empty}

-- an entry of the deferred table: a token and the numbers that are still due
pub record Held : Type 0 where
  pub token : ℕ
  pub due : List ℕ

-- Count, "how many tokens were ever taken as new"; the ready queue, oldest first; the deferred table, in the order entered.
-- The waiters of a number are the tokens of the deferred table that still wait for it, in the table's order:
-- a token joins the waiters of all its due numbers at once, so that this is "the order entered".
pub record Tables : Type 0 where
  pub count : ℕ
  pub ready : List ℕ
  pub deferred : List Held

-- what taking gives: nothing left, or a token; with the tables after it
pub data Taken : Type 0 where
  none : Tables → Taken
  took : ℕ → Tables → Taken

-- the tokens of the deferred table
abbrev pub tokens_of : List Held → List ℕ
tokens_of h = map (λ e. e.token) h

-- rule 1: "A number is still due if it is at least Count or is in the deferred table."
unfoldable pub is_due : Tables → ℕ → Bool
is_due t n = if (leb t.count n) true (has (tokens_of t.deferred) n)

-- "Count then rises by one"
abbrev pub raised : Tables → Tables
raised t = record { count = suc t.count; ready = t.ready; deferred = t.deferred }

-- rule 2: "the token is deferred on them and added, as last, to the waiters of each"
abbrev pub hold : Tables → ℕ → List ℕ → Tables
hold t token due = record { count = t.count; ready = t.ready; deferred = t.deferred ++ (record { token = token; due = due } ∷ []) }

module _ (numbers : ℕ → List ℕ) where
  -- rules 1 to 3 for a newly taken token, where so many are left below N: it is ordered if none of its numbers is due,
  -- and else deferred, and "the line takes again, within the same choice"
  unfoldable pub take_new : ℕ → Tables → Taken
  take_new zero t = none t
  take_new (suc left) t =
      let due : List ℕ = keep (is_due (raised t)) (numbers t.count) in
      let again : Taken = take_new left (hold (raised t) t.count due) in
      if (empty due) (took t.count (raised t)) again

  -- "A line at pipe 0 takes the oldest token in the ready queue, else token number Count"
  unfoldable pub take_from : ℕ → List ℕ → Tables → Taken
  take_from left [] t = take_new left t
  take_from left (n ∷ rest) t = took n (record { count = t.count; ready = rest; deferred = t.deferred })

-- taking, in a plan of N tokens, where each lists these numbers
unfoldable pub take : ℕ → (ℕ → List ℕ) → Tables → Taken
take tokens numbers t = take_from numbers (tokens - t.count) t.ready t

-- rule 4: the waiters of a number "lose that number"
abbrev pub lose : ℕ → Held → Held
lose n h = record { token = h.token; due = keep (λ m. not (eqb m n)) h.due }

-- rule 4: "One with none left moves from the deferred table to the end of the ready queue."
-- (A token that did not wait for n has some due, and loses none.)
unfoldable pub release : ℕ → Tables → Tables
release n t =
    let held : List Held = map (lose n) t.deferred in
    record {
      count = t.count;
      ready = t.ready ++ tokens_of (keep (λ h. empty h.due) held);
      deferred = keep (λ h. not (empty h.due)) held;
    }

-- "it starts with Count 0 and the rest empty"
abbrev pub opened : Tables
opened = record { count = 0; ready = []; deferred = [] }
