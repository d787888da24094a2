-- Taking a token from the tables in memory.
use Rattle.std.specs.Prelude.{List, [], ◌∷◌, map, ℕ, ◌+◌, ◌-◌, leb, ltb, get_or, set, Option, Some, None, Result, Ok, Err}
use Rattle.std.proofs.lemmas.List.Edits.{sets}
use Rattle.rules.specs.Lists.{if, must}
use Rattle.rules.specs.Sources.{Taken as Outcome, Spoiled, Nothing, Took}
use Rattle.tables.specs.declared.Tables.{Tables}
use Rattle.tables.specs.declared.Taken.{Taken}
use Rattle.tables.specs.declared.Spoiled.{Spoiled as TableError}
use Rattle.tables.specs.Layout.{standing_at, deferred_at, watches_at, ready_at, most_tokens, no_mark, deferred_mark, facts_of}
use Rattle.tables.specs.Facts.{Hold, spoiled, by_hold, new_hold}
use Rattle.tables.specs.State.{State, span, marks}

-- the first of some tokens that is free, or `end` where none is; no answer where a record before it is bad
unfoldable pub first_free : (ℕ → Hold) → ℕ → List ℕ → Result ℕ TableError
first_free hold end [] = Ok end
first_free hold end (t ∷ ts) =
    by_hold (hold t) (Err spoiled) (Ok t) (λ n. first_free hold end ts)

-- rule 2: "The line takes again, within the same choice": the first free token from Count on, or N where none is
unfoldable pub find_of : List ℕ → ℕ → ℕ → Result ℕ TableError
find_of f tokens count = first_free (new_hold f count) tokens (span count tokens)

-- the watch of a token that is passed over: the number by which it is held (0 where nothing holds it or its record is bad: such a token
-- is not passed over)
unfoldable pub watch_of : List ℕ → ℕ → ℕ → ℕ
watch_of f count t = by_hold (new_hold f count t) 0 0 (λ n. n)

-- rule 2: the tokens from Count up to this one are each "added, as last": they join the table in their order, with their watches
abbrev pub deferred_by : List ℕ → ℕ → List ℕ → List ℕ → List ℕ
deferred_by m held passed watches = marks (sets (sets m (deferred_at + held) passed) (watches_at + held) watches) deferred_mark passed

unfoldable pub deferred_upto : Tables → ℕ → List ℕ → List ℕ
deferred_upto t upto m = deferred_by m t.held (span t.count upto) (map (watch_of (facts_of m) t.count) (span t.count upto))

-- the tables after it, at a new Count
abbrev pub with_count : Tables → ℕ → ℕ → Tables
with_count t upto count =
    record { tokens = t.tokens; count = count; first = t.first; end = t.end; held = t.held + (upto - t.count) }

-- "the oldest token in the ready queue"
abbrev pub oldest_of : Tables → List ℕ → ℕ
oldest_of t m = get_or m (ready_at + t.first) 0

-- the tables after the oldest ready token left the queue
abbrev pub without_first : Tables → Tables
without_first t = record { tokens = t.tokens; count = t.count; first = t.first + 1; end = t.end; held = t.held }

-- "token number Count (Count then rises by one) if it was below N, else it stops", after those passed over were deferred;
-- spoiled where that takes the table "past its range"
unfoldable pub take_upto : Tables → List ℕ → Result ℕ TableError → Outcome State
take_upto t m (Err e) = Spoiled
take_upto t m (Ok upto) =
    must (leb (t.held + (upto - t.count)) most_tokens) Spoiled
    (if (ltb upto t.tokens)
    (Took upto (with_count t upto (upto + 1), deferred_upto t upto m))
    (Nothing (with_count t upto upto, deferred_upto t upto m)))

-- it leaves the queue, and its standing is cleared; spoiled where it is no token
unfoldable pub take_ready : Tables → List ℕ → ℕ → Outcome State
take_ready t m token =
    must (ltb token t.tokens) Spoiled
    (Took token (without_first t, set m (standing_at + token) no_mark))

-- "A line at pipe 0 takes the oldest token in the ready queue, else token number Count"
unfoldable pub take_of : Tables → List ℕ → Outcome State
take_of t m =
    if (ltb t.first t.end)
    (take_ready t m (oldest_of t m))
    (take_upto t m (find_of (facts_of m) t.tokens t.count))

-- a token, or none, and the tables after it
abbrev pub taken : Option ℕ → Tables → Taken
taken token t = record { token = token; tables = t }

-- what the code returns of it
unfoldable pub taken_of : Outcome State → Result Taken TableError
taken_of Spoiled = Err spoiled
taken_of (Nothing x) = Ok (taken None x.0)
taken_of (Took t x) = Ok (taken (Some t) x.0)

-- what the memory becomes: where it is spoiled, "state and memory unchanged"
unfoldable pub taken_memory : List ℕ → Outcome State → List ℕ
taken_memory m Spoiled = m
taken_memory m (Nothing x) = x.1
taken_memory m (Took t x) = x.1

-- what the code says of it before anything is written
unfoldable pub offered_of : Outcome State → Result (Option ℕ) TableError
offered_of Spoiled = Err spoiled
offered_of (Nothing x) = Ok None
offered_of (Took t x) = Ok (Some t)
