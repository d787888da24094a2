-- The bytes of kinds and of valid records pass, and spell them.
use mathlib.Core.Path.{◌≡◌, refl, ap, ap₂, ◌∙◌}
use mathlib.Core.List.{List, [], ◌∷◌, ◌++◌, map}
use Prim.Native.Nat.{ℕ, zero, suc, ◌+◌, ◌*◌, ◌≤◌}
use native.Mathlib.Omega.{arith}
use borrow.Author.Tests.{le-leb, eq-eqb, ne_eqb}
use lib.ListN.{length, length-append}
use lib.Seq.{take_at, drop_at}
use Rattle.fields.specs.Bytes.{field_bytes}
use Rattle.plan.specs.Checks.{passed}
use Rattle.plan.specs.Plan.{Record, ValidRecord, FirstSerial, AscendingFrom, total, record_bytes, records_bytes}
use Rattle.vocabulary.specs.PipeKinds.{byte_of}
use Rattle.rules.specs.Lists.{Every}
use Rattle.plan.specs.Pipes.{kinds_check, pipes_check}
use Rattle.vocabulary.specs.PipeKinds.{kind_of}
use Rattle.plan.specs.Records.{numbers_from, token_of, count_of, numbers_of, record_of, after_record, records_from, records_of}
use Rattle.vocabulary.specs.declared.pipe_kind.PipeKind.{PipeKind}
use Rattle.vocabulary.specs.declared.pipe_kind.PipeKind.TheVariants.{Serial, Parallel}
use Rattle.fields.proofs.Fields.{joined, bytes_fields, length_field_bytes}
use Rattle.plan.proofs.Facts.{RecordFacts, record_passes}
use Rattle.plan.proofs.Steps.{records_step, records_more}

-- the bytes of kinds stand for them
pub kinds_complete : (ks : List PipeKind) → (kinds_check (map byte_of ks) ≡ passed) × (map kind_of (map byte_of ks) ≡ ks)
unfolding kinds_check
kinds_complete [] = (refl, refl)
kinds_complete (Serial ∷ ks) = ((kinds_complete ks).0, ap (λ l. Serial ∷ l) (kinds_complete ks).1)
kinds_complete (Parallel ∷ ks) = ((kinds_complete ks).0, ap (λ l. Parallel ∷ l) (kinds_complete ks).1)

-- the pipe bytes of a plan pass
pub pipes_complete : (ks : List PipeKind) → FirstSerial ks → pipes_check (map byte_of ks) ≡ passed
unfolding pipes_check
pipes_complete [] h = absurd h
pipes_complete (k ∷ ks) h = rw h (kinds_complete (Serial ∷ ks)).0

-- numbers that ascend and are not the token pass
numbers_complete : (token floor : ℕ) (ns : List ℕ) → AscendingFrom floor ns → Every (λ n. n ≡ token → ⊥) ns → numbers_from token floor ns ≡ passed
unfolding numbers_from
numbers_complete token floor [] up others = refl
numbers_complete token floor (n ∷ ns) up others =
    rw (le-leb floor n up.0, ne_eqb n token others.0) (numbers_complete token (suc n) ns up.1 others.1)

-- the bytes of a record, and others after them
module _ (r : Record) (s : List ℕ) where
  abbrev t : List ℕ
  t = record_bytes r ++ s

  pub token_read : token_of t ≡ r.token
  unfolding field_bytes
  token_read = joined r.token

  pub count_read : count_of t ≡ length r.numbers
  unfolding field_bytes
  count_read = joined (length r.numbers)

  numbers_read : numbers_of t ≡ r.numbers
  unfolding field_bytes
  numbers_read =
      rw (joined (length r.numbers), take_at (field_bytes r.numbers) s (2 * length r.numbers) (length_field_bytes r.numbers))
      (bytes_fields r.numbers)

  pub after_read : after_record t ≡ s
  after_read =
      rw count_read
      (drop_at (record_bytes r) s (4 + 2 * length r.numbers) (omega (arith, length_field_bytes (r.token ∷ length r.numbers ∷ r.numbers))))

  pub length_read : length t ≡ 4 + 2 * length r.numbers + length s
  length_read = omega (arith, length-append (record_bytes r) s, length_field_bytes (r.token ∷ length r.numbers ∷ r.numbers))

  record_read : record_of t ≡ r
  record_read = λ i. record { token = token_read i; numbers = numbers_read i }

  -- a valid record passes at a floor and a running total that it keeps to
  facts_read : (tokens floor before : ℕ) → ValidRecord tokens r → floor ≤ r.token → before + length r.numbers ≤ 8192 →
      RecordFacts tokens floor before t
  facts_read tokens floor before v h l = record {
    begun = omega (arith, length_read);
    ascends = rw token_read h;
    entered = rw token_read v.entered;
    some = rw count_read v.some;
    most = rw count_read v.most;
    whole = rw count_read (omega (arith, length_read));
    counts = rw count_read l;
    numbers = rw (token_read, numbers_read) (numbers_complete r.token 0 r.numbers v.ascending v.others);
  }

  -- the record before records that pass, and before the records that a list spells
  more_pass : (tokens records most found floor before : ℕ) → RecordFacts tokens floor before t →
      records_from tokens records most (suc found) (suc r.token) (before + length r.numbers) s ≡ passed →
      records_from tokens records (suc most) found floor before t ≡ passed
  more_pass tokens records most found floor before f e =
      rw (
        records_step tokens records most found floor before t (omega (arith, f.begun)),
        record_passes tokens floor before t f,
        after_read,
        token_read,
        count_read,
      )
      e

  more_spelt : (most : ℕ) (rs : List Record) → 4 ≤ length t → records_of most s ≡ rs → records_of (suc most) t ≡ r ∷ rs
  more_spelt most rs h e =
      records_more most t (omega arith) ∙ ap₂ (λ x l. x ∷ l) record_read (ap (records_of most) after_read ∙ e)

module _ (tokens records : ℕ) where
  -- valid records pass, and their bytes spell them
  pub records_complete : (most found floor before : ℕ) (rs : List Record) → Every (ValidRecord tokens) rs →
      AscendingFrom floor (map (λ r. r.token) rs) → before + total rs ≤ 8192 → found + length rs ≡ records → length rs ≤ most →
      (records_from tokens records (suc most) found floor before (records_bytes rs) ≡ passed) × (records_of (suc most) (records_bytes rs) ≡ rs)
  unfolding records_from records_of records_bytes total
  records_complete most found floor before [] each up counts number enough = (rw (eq-eqb found records (omega arith)), refl)
  records_complete zero found floor before (r ∷ rs) each up counts number enough = absurd (omega arith)
  records_complete (suc most) found floor before (r ∷ rs) each up counts number enough =
      let s : List ℕ = records_bytes rs in
      let f = facts_read r s tokens floor before each.0 up.0 (omega arith) in
      let (passes, spells) = records_complete most (suc found) (suc r.token) (before + length r.numbers) rs
      each.1 up.1 (omega arith) (omega arith) (omega arith) in
      (more_pass r s tokens records (suc most) found floor before f passes, more_spelt r s (suc most) rs f.begun spells)

-- tokens that ascend below N are at most N
pub few_records : (tokens floor : ℕ) (rs : List Record) → Every (ValidRecord tokens) rs → AscendingFrom floor (map (λ r. r.token) rs) →
    floor ≤ tokens → floor + length rs ≤ tokens
few_records tokens floor [] each up h = omega arith
few_records tokens floor (r ∷ rs) each up h =
    omega (arith, up.0, few_records tokens (suc r.token) rs each.1 up.1 each.0.entered)

-- how long the records are
pub length_records : (rs : List Record) → length (records_bytes rs) ≡ 4 * length rs + 2 * total rs
unfolding records_bytes total
length_records [] = refl
length_records (r ∷ rs) = omega (arith, length_read r (records_bytes rs), length_records rs)
