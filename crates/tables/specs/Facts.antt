-- What the memory says of each token: its record, its standing, and what follows from them.
use Rattle.std.specs.Prelude.{Bool, true, false, not, List, [], ◌∷◌, ℕ, ◌+◌, ◌-◌, leb, ltb, eqb, get_or, take, drop, Option, Some, None, Result, Ok, Err}
use Rattle.std.specs.Option.{option_or}
use Rattle.rules.specs.Lists.{if, must, must_not}
use Rattle.std.specs.declared.ops.Range.{Range}
use Rattle.tables.specs.declared.Spoiled.{Spoiled}
use Rattle.tables.specs.Layout.{positions_at, standing_at, most_numbers, deferred_mark, finished_mark}

-- the one error of the tables
abbrev pub spoiled : Spoiled
spoiled = record {}

-- a part of the records: it begins at one place, and ends before another
abbrev pub Part : Type 0
Part = Range ℕ

abbrev pub part : ℕ → ℕ → Part
part a b = record { start = a; end = b }

-- a number's standing; 0 past the facts' end, for a number that no token can have
unfoldable pub standing_of : List ℕ → ℕ → ℕ
standing_of f t = get_or f (standing_at + t) 0

-- the number part of the record at a place, which is 1 + the record's position, or 0 for no record:
-- "count (1 to 16); that many token numbers", all of it among the records
unfoldable pub numbers_at : List ℕ → ℕ → Result Part Spoiled
numbers_at f place =
    let count : ℕ = get_or f (place - 1) 0 in
    must_not (eqb place 0) (Ok (part 0 0))
    (must (leb (place + count) positions_at) (Err spoiled)
    (must (leb 1 count) (Err spoiled)
    (must (leb count most_numbers) (Err spoiled)
    (Ok (part place (place + count))))))

-- the number part of a token's record
unfoldable pub numbers_of : List ℕ → ℕ → Result Part Spoiled
numbers_of f t = numbers_at f (get_or f (positions_at + t) 0)

-- rule 1: "A number is still due if it is at least Count or is in the deferred table."
-- Count and the standings are those at the start of a taking; every token between that Count and this one was passed over,
-- and so is in the table by now. Of the numbers from that Count on, none of which is marked in a run, only the token itself is not due.
unfoldable pub due_of : List ℕ → ℕ → ℕ → ℕ → Bool
due_of f count t n = if (eqb (standing_of f n) deferred_mark) true (must_not (ltb n count) false (not (eqb n t)))

-- a number that a waiter still has once this token has finished: another, which has not finished pipe 0
unfoldable pub left_of : List ℕ → ℕ → ℕ → Bool
left_of f d n = must_not (eqb (standing_of f n) finished_mark) false (not (eqb n d))

-- what holds a token, if it is one and its record is good: nothing, or a number
abbrev pub Hold : Type 0
Hold = Result (Option ℕ) Spoiled

-- by what holds a token: one thing where its record is bad, one where nothing holds it, and one by the number that does
abbrev pub by_hold : {A : Type 0} → Hold → A → A → (ℕ → A) → A
by_hold (Err e) a b g = a
by_hold (Ok None) a b g = b
by_hold (Ok (Some n)) a b g = g n

-- the last number of a list that passes a test: the highest, as numbers in a record ascend
unfoldable pub last_of : (ℕ → Bool) → List ℕ → Option ℕ
last_of test [] = None
last_of test (n ∷ ns) = option_or (last_of test ns) (if (test n) (Some n) None)

-- what holds a token: the last number of its record that passes a test, unless the record is bad
unfoldable pub hold_as : List ℕ → (ℕ → Bool) → Result Part Spoiled → Hold
hold_as f test (Err e) = Err e
hold_as f test (Ok p) = Ok (last_of test (take (p.end - p.start) (drop p.start f)))

unfoldable pub hold_of : List ℕ → (ℕ → Bool) → ℕ → Hold
hold_of f test t = hold_as f test (numbers_of f t)

-- rules 2 and 3: "If any remain due, the token is deferred on them", "otherwise" it is ordered
unfoldable pub new_hold : List ℕ → ℕ → ℕ → Hold
new_hold f count t = hold_of f (due_of f count t) t

-- rule 4: what still holds a waiter of this number, which has lost it; one that is not below N is no token
unfoldable pub left_hold : List ℕ → ℕ → ℕ → ℕ → Hold
left_hold f tokens d t = must_not (leb tokens t) (Err spoiled) (hold_of f (left_of f d) t)
