-- The memory that opening leaves: the records, where each token's record stands, and zeros.
use Rattle.std.specs.Prelude.{◌≡◌, List, [], ◌∷◌, ◌++◌, map, ℕ, suc, ◌+◌, ◌≤◌, eqb, length, drop, set, replicate}
use Rattle.rules.specs.Lists.{if, table, Every}
use Rattle.plan.specs.Plan.{Record, ValidRecord, AscendingFrom, records_bytes}
use Rattle.loading.specs.Plans.{filled_up}

-- a record as it stands in memory: its head, which is its count, and its numbers; where it stands tells whose it is
abbrev pub record_fields : Record → List ℕ
record_fields r = length r.numbers ∷ r.numbers

-- those of all records
unfoldable pub records_fields : List Record → List ℕ
records_fields [] = []
records_fields (r ∷ rs) = record_fields r ++ records_fields rs

-- 1 + the position of a token's record, where the first record stands at `from`; 0 for no record
unfoldable pub place_of : ℕ → List Record → ℕ → ℕ
place_of from [] n = 0
place_of from (r ∷ rs) n = if (eqb r.token n) (suc from) (place_of (from + (1 + length r.numbers)) rs n)

-- so many zeros
unfoldable pub zeros : ℕ → List ℕ
zeros n = replicate n 0

-- the facts of the tokens: the records, filled up to 12,288 numbers; where the record of each of 4,096 tokens stands; every standing 0
unfoldable pub laid_facts : List Record → List ℕ
laid_facts rs = filled_up 12288 0 (records_fields rs) ++ (table 4096 (place_of 0 rs) ++ zeros 4096)

-- "Opening copies the lists into 32,768 lent 16-bit numbers and clears the unused ones; anything beyond is untouched":
-- the facts, empty tables, and what is beyond
unfoldable pub laid_out : List Record → List ℕ → List ℕ
laid_out rs m = laid_facts rs ++ (zeros 12288 ++ drop 32768 m)

-- bytes that spell records which fit the memory
pub record Spells (part : List ℕ) (rs : List Record) : Type 0 where
  pub bytes : records_bytes rs ≡ part
  pub each : Every (ValidRecord 4096) rs
  pub ascending : AscendingFrom 0 (map (λ r. r.token) rs)
  pub fits : length (records_fields rs) ≤ 12288

-- the memory with the place of each record's token marked, where the first record stands at `from`
unfoldable pub pointed : List ℕ → ℕ → List Record → List ℕ
pointed m from [] = m
pointed m from (r ∷ rs) = pointed (set m (12288 + r.token) (from + 1)) (from + (1 + length r.numbers)) rs
