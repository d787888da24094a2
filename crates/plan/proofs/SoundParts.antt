-- Parts of a file that pass are the bytes of what they spell: pipe bytes and records.
use Rattle.std.specs.Prelude.{Ok, Err}
use mathlib.Core.Path.{◌≡◌, refl, sym, ◌∙◌}
use mathlib.Core.Bool.{Bool, true, false}
use mathlib.Core.List.{List, [], ◌∷◌, map}
use Prim.Native.Nat.{ℕ, zero, suc, ◌+◌, ◌*◌, ◌≤◌}
use native.Mathlib.Omega.{arith}
use borrow.Author.Tests.{leb-true, eqb-true, eqb-false, not-true}
use lib.Dec.{eqb}
use lib.ListN.{length, get_or, take, drop, length-drop, take-append-drop}
use lib.Seq.{take-add, length-take-le}
use Rattle.rules.specs.Lists.{if}
use Rattle.fields.specs.Bytes.{field_bytes, Bytes}
use Rattle.plan.specs.Checks.{passed}
use Rattle.plan.specs.Plan.{Record, ValidRecord, FirstSerial, AscendingFrom, total, record_bytes, records_bytes}
use Rattle.vocabulary.specs.PipeKinds.{byte_of}
use Rattle.rules.specs.Lists.{Every}
use Rattle.plan.specs.Pipes.{kinds_check}
use Rattle.vocabulary.specs.PipeKinds.{pipe_of, is_known, kind_of}
use Rattle.plan.specs.Records.{numbers_from, token_of, count_of, numbers_of, record_of, after_record, records_from, records_of}
use Rattle.vocabulary.specs.declared.pipe_kind.PipeKind.TheVariants.{Serial, Parallel}
use Rattle.vocabulary.specs.declared.refusal.Refusal.TheVariants.{Pipes}
use Rattle.fields.proofs.Fields.{low, high, take_bytes, drop_bytes, fields_bytes, length_fields, fields_fit}
use Rattle.plan.proofs.Facts.{failed, must_passed, both_passed, RecordFacts, record_passed}
use Rattle.plan.proofs.Steps.{records_step, records_more}

-- the byte of the kind that a known byte stands for
known_byte : (b : ℕ) → is_known (pipe_of b) ≡ true → byte_of (kind_of b) ≡ b
known_byte b e = go (eqb b 83) (eqb b 80) refl refl e
  where
    go : (x y : Bool) → eqb b 83 ≡ x → eqb b 80 ≡ y →
        is_known (if x (Ok Serial) (if y (Ok Parallel) (Err Pipes))) ≡ true → byte_of (if x Serial Parallel) ≡ b
    go true y p q e = sym (eqb-true b 83 p)
    go false true p q e = sym (eqb-true b 80 q)
    go false false p q e = let z : ◌≡◌ {A = ℕ} 0 1 = cc in absurd (omega arith)

-- known bytes are those of the kinds that they stand for
pub kinds_sound : (s : List ℕ) → kinds_check s ≡ passed → map byte_of (map kind_of s) ≡ s
unfolding kinds_check
kinds_sound [] e = refl
kinds_sound (b ∷ s) e =
    let (known, e₁) = must_passed _ _ _ e in
    rw (known_byte b known, kinds_sound s e₁)

-- the first pipe is serial
pub first_sound : (s : List ℕ) → eqb (get_or s 0 0) 83 ≡ true → FirstSerial (map kind_of s)
first_sound [] e = let z : ◌≡◌ {A = ℕ} 0 83 = eqb-true 0 83 e in omega arith
first_sound (b ∷ s) e = rw e

-- numbers that pass ascend and are not the token
numbers_sound_lem : (token floor : ℕ) (ns : List ℕ) → numbers_from token floor ns ≡ passed →
    AscendingFrom floor ns × Every (λ n. n ≡ token → ⊥) ns
unfolding numbers_from
numbers_sound_lem token floor [] e = (tt, tt)
numbers_sound_lem token floor (n ∷ ns) e =
    let (a, e₁) = must_passed _ _ _ e in
    let (b, e₂) = must_passed _ _ _ e₁ in
    let (up, others) = numbers_sound_lem token (suc n) ns e₂ in
    ((leb-true _ _ a, up), (eqb-false _ _ (not-true _ b), others))

-- a record that is whole has as many numbers as it says
count_sound : (s : List ℕ) → 4 + 2 * count_of s ≤ length s → length (numbers_of s) ≡ count_of s
count_sound s h =
    length_fields (count_of s) (take (2 * count_of s) (drop 4 s))
    (length-take-le (2 * count_of s) (drop 4 s) (simp length-drop (omega arith)))

-- its bytes are made of its fields again
record_bytes_lem : (s : List ℕ) → Bytes s → 4 ≤ length s → 4 + 2 * count_of s ≤ length s →
    record_bytes (record_of s) ≡ take (4 + 2 * count_of s) s
unfolding field_bytes
record_bytes_lem [] bs h w = absurd (omega arith)
record_bytes_lem (a ∷ []) bs h w = absurd (omega arith)
record_bytes_lem (a ∷ b ∷ []) bs h w = absurd (omega arith)
record_bytes_lem (a ∷ b ∷ c ∷ []) bs h w = absurd (omega arith)
record_bytes_lem (a ∷ b ∷ c ∷ d ∷ s) bs h w =
    let count : ℕ = c + d * 256 in
    let whole : length (take (2 * count) s) ≡ 2 * count = length-take-le (2 * count) s (omega arith) in
    rw (
      take-add 4 (2 * count) (a ∷ b ∷ c ∷ d ∷ s),
      length_fields count (take (2 * count) s) whole,
      low a b (bs 0),
      high a b (bs 0),
      low c d (bs 2),
      high c d (bs 2),
      fields_bytes count (take (2 * count) s) (take_bytes (2 * count) s (λ i. bs (suc (suc (suc (suc i)))))) whole,
    )

-- a record that passes is valid
valid_record : (tokens floor before : ℕ) (s : List ℕ) → Bytes s → RecordFacts tokens floor before s → ValidRecord tokens (record_of s)
valid_record tokens floor before s bs f =
    let count : length (numbers_of s) ≡ count_of s = count_sound s f.whole in
    let (up, others) = numbers_sound_lem (token_of s) 0 (numbers_of s) f.numbers in
    record {
      entered = f.entered;
      some = omega arith;
      most = omega arith;
      ascending = up;
      others = others;
      fields = fields_fit _ (take_bytes (2 * count_of s) _ (drop_bytes 4 s bs));
    }

-- what holds of records that pass, from a floor and a running total on
pub record Sound (tokens records found floor before : ℕ) (s : List ℕ) (rs : List Record) : Type 0 where
  pub bytes : records_bytes rs ≡ s
  pub each : Every (ValidRecord tokens) rs
  pub ascending : AscendingFrom floor (map (λ r. r.token) rs)
  pub counts : before + total rs ≤ 8192
  pub number : found + length rs ≡ records

module _ (tokens records : ℕ) where
  none_sound : (found floor before : ℕ) → before ≤ 8192 → found ≡ records → Sound tokens records found floor before [] []
  unfolding records_bytes total
  none_sound found floor before h e = record { bytes = refl; each = tt; ascending = tt; counts = omega arith; number = omega arith }

  -- one more record before records that pass
  more_sound : (found floor before : ℕ) (s : List ℕ) (rs : List Record) → Bytes s → RecordFacts tokens floor before s →
      Sound tokens records (suc found) (suc (token_of s)) (before + count_of s) (after_record s) rs →
      Sound tokens records found floor before s (record_of s ∷ rs)
  unfolding records_bytes total
  more_sound found floor before s rs bs f z =
      let count : length (numbers_of s) ≡ count_of s = count_sound s f.whole in
      record {
        bytes = rw (record_bytes_lem s bs f.begun f.whole, z.bytes) (take-append-drop (4 + 2 * count_of s) s);
        each = (valid_record tokens floor before s bs f, z.each);
        ascending = (f.ascends, z.ascending);
        counts = omega (arith, z.counts);
        number = omega (arith, z.number);
      }

  -- records that pass are valid and spell the bytes
  pub records_sound : (most found floor before : ℕ) (s : List ℕ) → Bytes s → before ≤ 8192 →
      records_from tokens records most found floor before s ≡ passed → Sound tokens records found floor before s (records_of most s)
  unfolding records_from records_of
  records_sound zero found floor before s bs h e = absurd (failed _ e)
  records_sound (suc most) found floor before [] bs h e = none_sound found floor before h (eqb-true found records (must_passed _ _ _ e).0)
  records_sound (suc most) found floor before (b ∷ s) bs h e =
      let (first, others) = both_passed _ _ (sym (records_step tokens records most found floor before (b ∷ s) (omega arith)) ∙ e) in
      let f = record_passed tokens floor before (b ∷ s) first in
      rw (records_more most (b ∷ s) (omega arith))
      (more_sound found floor before (b ∷ s) (records_of most (after_record (b ∷ s))) bs f
      (records_sound most (suc found) (suc (token_of (b ∷ s))) (before + count_of (b ∷ s)) (after_record (b ∷ s))
      (drop_bytes (4 + 2 * count_of (b ∷ s)) (b ∷ s) bs) f.counts others))
