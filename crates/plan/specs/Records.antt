-- The deferral records, and the checks 5 to 7.
use Rattle.std.specs.Prelude.{not, List, [], ◌∷◌, ℕ, zero, suc, ◌+◌, ◌*◌, leb, ltb, eqb, length, take, drop, Err}
use Rattle.rules.specs.Lists.{if}
use Rattle.fields.specs.Bytes.{field_at, fields}
use Rattle.rules.specs.Lists.{must}
use Rattle.plan.specs.Checks.{Check, passed, both}
use Rattle.plan.specs.Plan.{Record}
use Rattle.vocabulary.specs.declared.refusal.Refusal.TheVariants.{RecordLayout, ListsItself, TotalCount}

-- the numbers of a token's record, from a floor on: each number's ascent (5), then self (6)
unfoldable pub numbers_from : (token floor : ℕ) → List ℕ → Check
numbers_from token floor [] = passed
numbers_from token floor (n ∷ ns) =
    must (leb floor n) (Err RecordLayout) (must (not (eqb n token)) (Err ListsItself) (numbers_from token (suc n) ns))

-- the token of the record that a list of bytes begins with
abbrev pub token_of : List ℕ → ℕ
token_of s = field_at s 0

-- its count
abbrev pub count_of : List ℕ → ℕ
count_of s = field_at s 2

-- its numbers
abbrev pub numbers_of : List ℕ → List ℕ
numbers_of s = fields (take (2 * count_of s) (drop 4 s))

-- the record
abbrev pub record_of : List ℕ → Record
record_of s = record { token = token_of s; numbers = numbers_of s }

-- the bytes after the record
abbrev pub after_record : List ℕ → List ℕ
after_record s = drop (4 + 2 * count_of s) s

-- the first record, where tokens from a floor on are due and so many numbers stand before it:
-- token, count, cut short (5), running total (7), its numbers
unfoldable pub record_check : (tokens floor before : ℕ) → List ℕ → Check
record_check tokens floor before s =
    must (leb 4 (length s)) (Err RecordLayout)
    (must (leb floor (token_of s)) (Err RecordLayout)
    (must (ltb (token_of s) tokens) (Err RecordLayout)
    (must (leb 1 (count_of s)) (Err RecordLayout)
    (must (leb (count_of s) 16) (Err RecordLayout)
    (must (leb (4 + 2 * count_of s) (length s)) (Err RecordLayout)
    (must (leb (before + count_of s) 8192) (Err TotalCount)
    (numbers_from (token_of s) 0 (numbers_of s))))))))

-- the records that a list of bytes is, in file order, where so many were found before; last that there are R in all
-- (`most` is there for the recursion: one more than the records that are looked at)
unfoldable pub records_from : (tokens records most found floor before : ℕ) → List ℕ → Check
records_from tokens records zero found floor before s = Err RecordLayout
records_from tokens records (suc most) found floor before s =
    if (eqb (length s) 0) (must (eqb found records) (Err RecordLayout) passed)
    (both (record_check tokens floor before s)
    (records_from tokens records most (suc found) (suc (token_of s)) (before + count_of s) (after_record s)))

-- all records of a part: there are at most as many as bytes
abbrev pub records_check : ℕ → ℕ → List ℕ → Check
records_check tokens records s = records_from tokens records (suc (length s)) 0 0 0 s

-- the records that a list of bytes spells
unfoldable pub records_of : (most : ℕ) → List ℕ → List Record
records_of zero s = []
records_of (suc most) s = if (eqb (length s) 0) [] (record_of s ∷ records_of most (after_record s))

abbrev pub records_in : List ℕ → List Record
records_in s = records_of (suc (length s)) s
