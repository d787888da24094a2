-- A journal's records, as the code reads them.
use Rattle.std.proofs.Common.{◌≡◌, refl, ℕ, zero, suc, ◌+◌, ◌<◌, List, ◌∷◌, length, get_or, take, drop, map, arith}
use Rattle.std.proofs.lemmas.List.{get_or-take}
use Rattle.std.specs.Simd.{first_chunks}
use Rattle.fields.specs.Bytes.{field_at, field_in}
use Rattle.fields.proofs.Fields.{field_inside}
use Rattle.journal_file.specs.Records.{record_in, records}

-- a record by its fields
pub record_of : (s : List ℕ) {l p t k w : ℕ} → length s ≡ 11 → l ≡ field_in s 1 → p ≡ field_in s 3 → t ≡ field_in s 5 → k ≡ field_in s 7 → w ≡ field_in s 9 →
    record { kind = get_or s 0 0; line = l; pipe = p; token = t; place = k; worker = w } ≡ record_in s
record_of s h l_is p_is t_is k_is w_is = λ j. record {
  kind = get_or s 0 0;
  line = field_inside s 1 (omega arith) l_is j;
  pipe = field_inside s 3 (omega arith) p_is j;
  token = field_inside s 5 (omega arith) t_is j;
  place = field_inside s 7 (omega arith) k_is j;
  worker = field_inside s 9 (omega arith) w_is j;
}

-- a record is in the first 11 bytes
field_taken : (s : List ℕ) (i : ℕ) → i + 1 < 11 → field_at (take 11 s) i ≡ field_at s i
field_taken s i h = let below : i < 11 = omega arith in rw (get_or-take 11 s i 0 below, get_or-take 11 s (i + 1) 0 h)

record_taken : (s : List ℕ) → record_in (take 11 s) ≡ record_in s
record_taken s = λ j. record {
  kind = get_or-take 11 s 0 0 (omega arith) j;
  line = field_taken s 1 (omega arith) j;
  pipe = field_taken s 3 (omega arith) j;
  token = field_taken s 5 (omega arith) j;
  place = field_taken s 7 (omega arith) j;
  worker = field_taken s 9 (omega arith) j;
}

-- the records are those of the chunks
pub records_of_chunks : (n : ℕ) (s : List ℕ) → map record_in (first_chunks 11 n s) ≡ records n s
unfolding records
records_of_chunks zero s = refl
records_of_chunks (suc n) s = λ j. record_taken s j ∷ records_of_chunks n (drop 11 s) j
