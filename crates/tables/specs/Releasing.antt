-- A token's finish at pipe 0, on the tables in memory.
use Rattle.std.specs.Prelude.{◌≡◌, Bool, true, false, not, List, [], ◌∷◌, ℕ, suc, ◌+◌, ◌-◌, ◌<◌, leb, eqb, length, get_or, set, replicate, Result, Ok, Err}
use Rattle.std.proofs.lemmas.List.Edits.{sets}
use Rattle.std.proofs.Math.Seq.{slice}
use Rattle.rules.specs.Lists.{if, must, must_not, keep, any}
use Rattle.rules.specs.Sources.{Released as Outcome, Broken, Passed}
use Rattle.tables.specs.declared.Tables.{Tables}
use Rattle.tables.specs.declared.Spoiled.{Spoiled}
use Rattle.tables.specs.declared.Tally.{Tally}
use Rattle.tables.specs.Layout.{standing_at, deferred_at, watches_at, ready_at, most_tokens, ready_mark, finished_mark, facts_of}
use Rattle.tables.specs.Facts.{Hold, spoiled, by_hold, left_hold}
use Rattle.tables.specs.State.{State, marks, table_of}

abbrev pub is_free : Hold → Bool
is_free x = by_hold x false true (λ n. false)

abbrev pub is_held : Hold → Bool
is_held x = by_hold x false false (λ n. true)

abbrev pub is_unsound : Hold → Bool
is_unsound x = by_hold x true false (λ n. false)

-- the elements of a list at which a list in step with it passes a test
unfoldable pub pick : (ℕ → Bool) → List ℕ → List ℕ → List ℕ
pick test [] ws = []
pick test (x ∷ xs) [] = []
pick test (x ∷ xs) (w ∷ ws) = if (test w) (x ∷ pick test xs ws) (pick test xs ws)

-- a watch is this number, or is not, as `watching` asks
abbrev pub watches : Bool → ℕ → ℕ → Bool
watches watching d w = if watching (eqb w d) (not (eqb w d))

-- the numbers in the cells from one up to another, of those that begin at `base`, whose watches are this number, or are not
abbrev pub sifted_from : Bool → List ℕ → ℕ → ℕ → ℕ → ℕ → List ℕ
sifted_from watching m base d cell held =
    pick (watches watching d) (slice (base + cell) (base + held) m) (slice (watches_at + cell) (watches_at + held) m)

-- the first of some cells, the watches of which are given and the first of which is `cell`, whose watch is this number;
-- the one after them where there is none
unfoldable pub next_in : ℕ → ℕ → List ℕ → ℕ
next_in d cell [] = cell
next_in d cell (w ∷ ws) = if (eqb w d) cell (next_in d (suc cell) ws)

abbrev pub next_from : List ℕ → ℕ → ℕ → ℕ → ℕ
next_from m d cell held = next_in d cell (slice (watches_at + cell) (watches_at + held) m)

-- no cell before this one watches the number
abbrev pub Unwatched : List ℕ → ℕ → ℕ → Type 0
Unwatched m d cell = (i : ℕ) → i < cell → get_or m (watches_at + i) 0 ≡ d → ⊥

-- the two counts
abbrev pub tally : ℕ → ℕ → Tally
tally n k = record { free = n; held = k }

-- of some tokens: how many nothing holds, and how many a number does, unless one is no token or has a bad record
unfoldable pub tally_of : (ℕ → Hold) → List ℕ → Result Tally Spoiled
tally_of hold ts =
    must_not (any (λ t. is_unsound (hold t)) ts) (Err spoiled)
    (Ok (tally (length (keep (λ t. is_free (hold t)) ts)) (length (keep (λ t. is_held (hold t)) ts))))

-- the watch of a token after the finish of d: another where it watches d and another number holds it, else as before
unfoldable pub new_watch : (ℕ → Hold) → ℕ → ℕ → ℕ → ℕ
new_watch hold d t w = if (eqb w d) (by_hold (hold t) w w (λ n. n)) w

unfoldable pub new_watches : (ℕ → Hold) → ℕ → List ℕ → List ℕ → List ℕ
new_watches hold d [] ws = []
new_watches hold d (t ∷ ts) [] = []
new_watches hold d (t ∷ ts) (w ∷ ws) = new_watch hold d t w ∷ new_watches hold d ts ws

-- the new watches of the cells from one up to another
abbrev pub renewed_from : List ℕ → ℕ → ℕ → ℕ → ℕ → List ℕ
renewed_from m tokens d cell held =
    new_watches (left_hold (facts_of m) tokens d) d (slice (deferred_at + cell) (deferred_at + held) m) (slice (watches_at + cell) (watches_at + held) m)

-- the tokens of the deferred table that watch a number, and whether one of them is no token or has a bad record
abbrev pub watchers_in : Tables → ℕ → List ℕ → List ℕ
watchers_in t d m = sifted_from true m deferred_at d 0 t.held

abbrev pub unsound_in : Tables → ℕ → List ℕ → Bool
unsound_in t d m = any (λ n. is_unsound (left_hold (facts_of m) t.tokens d n)) (watchers_in t d m)

-- the table's watches after a token's finish, those of the tokens that wake still among them
abbrev pub renewed_in : Tables → ℕ → List ℕ → List ℕ
renewed_in t d m = renewed_from m t.tokens d 0 t.held

-- the tokens that no other number holds: they watch it still, and wake; the others stay, with their watches
abbrev pub woken_in : Tables → ℕ → List ℕ → List ℕ
woken_in t d m = pick (watches true d) (table_of t m) (renewed_in t d m)

abbrev pub staying_in : Tables → ℕ → List ℕ → List ℕ
staying_in t d m = pick (watches false d) (table_of t m) (renewed_in t d m)

abbrev pub staying_watches_in : Tables → ℕ → List ℕ → List ℕ
staying_watches_in t d m = pick (watches false d) (renewed_in t d m) (renewed_in t d m)

-- rule 4: "One with none left moves from the deferred table to the end of the ready queue."
unfoldable pub moved_tables : Tables → ℕ → List ℕ → Tables
moved_tables t d m =
    record { tokens = t.tokens; count = t.count; first = t.first; end = t.end + length (woken_in t d m); held = length (staying_in t d m) }

-- the table and its watches, where some tokens stay: these close up, and the freed cells become 0
abbrev pub closed_by : List ℕ → ℕ → List ℕ → List ℕ → List ℕ
closed_by m held staying watching =
    let closed : List ℕ = sets (sets m deferred_at staying) watches_at watching in
    let freed : List ℕ = replicate (held - length staying) 0 in
    sets (sets closed (deferred_at + length staying) freed) (watches_at + length staying) freed

-- the memory, its watches renewed, after the woken joined the ready queue at its end and the others closed up;
-- the woken and the finished token have their new standings
abbrev pub moved_by : List ℕ → ℕ → ℕ → ℕ → List ℕ → List ℕ → List ℕ → List ℕ
moved_by m end held d woken staying watching =
    set (marks (closed_by (sets m (ready_at + end) woken) held staying watching) ready_mark woken) (standing_at + d) finished_mark

unfoldable pub moved_memory : Tables → ℕ → List ℕ → List ℕ
moved_memory t d m = moved_by (sets m watches_at (renewed_in t d m)) t.end t.held d (woken_in t d m) (staying_in t d m) (staying_watches_in t d m)

-- rule 4: "When a token finishes pipe 0, its waiters, in the order entered, lose that number." In a run only those that watch it can have
-- none left. Broken where it is no token, where one that watches it is no token or has a bad record, or where the queue goes "past its range"
unfoldable pub release_of : Tables → ℕ → List ℕ → Outcome State
release_of t d m =
    must_not (leb t.tokens d) Broken
    (must_not (unsound_in t d m) Broken
    (must (leb (t.end + length (woken_in t d m)) most_tokens) Broken
    (Passed (moved_tables t d m, moved_memory t d m))))

-- whether it passes: what an offer has to know of it
abbrev pub passes : Outcome State → Bool
passes Broken = false
passes (Passed x) = true

-- what the code returns of it
unfoldable pub released_of : Outcome State → Result Tables Spoiled
released_of Broken = Err spoiled
released_of (Passed x) = Ok x.0

-- what the memory becomes: where it is broken, "state and memory unchanged"
unfoldable pub released_memory : List ℕ → Outcome State → List ℕ
released_memory m Broken = m
released_memory m (Passed x) = x.1
