-- The calls for any tables and memory: what it says of a token, taking and a token's finish; and the tables in memory as a source of tokens.
use Rattle.std.specs.Prelude.{List, ℕ, leb, ltb, length, Err}
use Rattle.rules.specs.Lists.{must}
use Rattle.rules.specs.Sources.{Source, Taken, Spoiled, Released, Broken}
use Rattle.tables.specs.Layout.{lent, most_tokens, facts_of}
use Rattle.tables.specs.Facts.{Hold, spoiled, new_hold, left_hold}
use Rattle.tables.specs.State.{State, sound_of}
use Rattle.tables.specs.Taking.{take_of}
use Rattle.tables.specs.Releasing.{release_of}

-- what holds a new token, and what still holds a deferred one: unsound too where fewer than 32,768 numbers are lent,
-- or where the token, or N, is outside its range
unfoldable pub safe_new_hold : List ℕ → ℕ → ℕ → Hold
safe_new_hold m count t =
    must (leb lent (length m)) (Err spoiled)
    (must (ltb t most_tokens) (Err spoiled)
    (new_hold (facts_of m) count t))

unfoldable pub safe_left_hold : List ℕ → ℕ → ℕ → ℕ → Hold
safe_left_hold m tokens d t =
    must (leb lent (length m)) (Err spoiled)
    (must (leb tokens most_tokens) (Err spoiled)
    (left_hold (facts_of m) tokens d t))

-- "14 if fewer than 32,768 numbers are lent or a number in state or memory is outside its range", before all else
unfoldable pub safe_take : State → Taken State
safe_take x = must (sound_of x) Spoiled (take_of x.0 x.1)

unfoldable pub safe_release : ℕ → State → Released State
safe_release d x = must (sound_of x) Broken (release_of x.0 d x.1)

-- the tables in memory as a source of tokens
abbrev pub memory_source : Source State
memory_source = record { take = safe_take; release = safe_release; sound = sound_of }
