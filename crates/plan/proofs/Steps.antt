-- One turn of each loop: what a check of a list says where its first elements are read at a place.
use Rattle.std.specs.Prelude.{Ok, Err}
use mathlib.Core.Path.{◌≡◌}
use mathlib.Core.Bool.{not}
use mathlib.Core.List.{List, ◌∷◌}
use Prim.Native.Nat.{ℕ, suc, ◌+◌, ◌-◌, ◌*◌, ◌≤◌, ◌<◌}
use native.Mathlib.Numerals.{add-one}
use native.Mathlib.Omega.{arith}
use lib.Dec.{leb, eqb}
use lib.ListN.{length, get_or, drop, drop_of_length-le}
use lib.Seq.{drop-cons}
use borrow.Author.Tests.{lt-ltb, le-leb, ne_eqb}
use Rattle.rules.specs.Lists.{must}
use Rattle.rules.proofs.lists.Tests.{by_test}
use Rattle.vocabulary.specs.declared.refusal.Refusal.{Refusal}
use Rattle.plan.specs.Checks.{passed, both}
use Rattle.plan.specs.Trailer.{trailer_of, header_check}
use Rattle.plan.specs.Pipes.{kinds_check}
use Rattle.vocabulary.specs.PipeKinds.{is_known, pipe_of}
use Rattle.plan.specs.Records.{numbers_from, token_of, count_of, numbers_of, after_record, record_check, records_from, record_of, records_of}
use Rattle.plan.specs.Reading.{parts_check, check_of}
use Rattle.vocabulary.specs.declared.pipe_kind.PipeKind.{PipeKind}
use Rattle.vocabulary.specs.declared.refusal.Refusal.TheVariants.{Pipes, RecordLayout, ListsItself, TotalCount}

-- a record whose token, count and size are right: the running total, and then its numbers
pub record_laid : (tokens floor before : ℕ) (s : List ℕ) → 4 ≤ length s → floor ≤ token_of s → token_of s < tokens → 1 ≤ count_of s → count_of s ≤ 16 →
    4 + 2 * count_of s ≤ length s →
    record_check tokens floor before s ≡ must (leb (before + count_of s) 8192) (Err TotalCount) (numbers_from (token_of s) 0 (numbers_of s))
unfolding record_check
record_laid tokens floor before s a b c d e f =
    rw (
      le-leb 4 (length s) a,
      le-leb floor (token_of s) b,
      lt-ltb (token_of s) tokens c,
      le-leb 1 (count_of s) d,
      le-leb (count_of s) 16 e,
      le-leb (4 + 2 * count_of s) (length s) f,
    )

-- the first record, and those after it
pub records_step : (tokens records most found floor before : ℕ) (s : List ℕ) → (length s ≡ 0 → ⊥) →
    records_from tokens records (suc most) found floor before s
    ≡ both (record_check tokens floor before s)
    (records_from tokens records most (suc found) (suc (token_of s)) (before + count_of s) (after_record s))
unfolding records_from
records_step tokens records most found floor before s more = rw (ne_eqb (length s) 0 more)

pub records_more : (most : ℕ) (s : List ℕ) → (length s ≡ 0 → ⊥) → records_of (suc most) s ≡ record_of s ∷ records_of most (after_record s)
unfolding records_of
records_more most s more = rw (ne_eqb (length s) 0 more)

-- the checks that are left in a file of a right size
pub after_size : (file : List ℕ) → 12 ≤ length file → length file ≤ 32796 →
    check_of file ≡ both (header_check (trailer_of file) (length file)) (parts_check (trailer_of file) file)
unfolding check_of
after_size file h l = rw (le-leb 12 (length file) h, le-leb (length file) 32796 l)

-- a byte that stands for no kind is refused with 4
unknown_byte : {why : Refusal} (b : ℕ) → Err why ≡ pipe_of b → why ≡ Pipes
unknown_byte b h = by_test (eqb b 83)
    (λ e. let k = rw e at h in cc)
    (λ e. by_test (eqb b 80) (λ f. let k = rw (e, f) at h in cc) (λ f. let k = rw (e, f) at h in cc))

module _ (s : List ℕ) (i : ℕ) where
  -- the pipe byte at i, and those after it
  kinds_turn : i < length s → kinds_check (drop i s) ≡ must (is_known (pipe_of (get_or s i 0))) (Err Pipes) (kinds_check (drop (i + 1) s))
  unfolding kinds_check
  kinds_turn h = rw (add-one, drop-cons s i 0)

  pub kinds_known : {kind : PipeKind} → i < length s → Ok kind ≡ pipe_of (get_or s i 0) → kinds_check (drop i s) ≡ kinds_check (drop (i + 1) s)
  kinds_known h e = rw (kinds_turn h, ← e)

  pub kinds_unknown : {why : Refusal} → i < length s → Err why ≡ pipe_of (get_or s i 0) → kinds_check (drop i s) ≡ Err why
  kinds_unknown {why} h e = rw (kinds_turn h, ← e, ← unknown_byte (get_or s i 0) e)

  pub kinds_end : length s ≤ i → kinds_check (drop i s) ≡ passed
  unfolding kinds_check
  kinds_end h = rw (drop_of_length-le s h)

-- the numbers of a record from i on
module _ (ns : List ℕ) (i token floor : ℕ) where
  pub numbers_turn : i < length ns → numbers_from token floor (drop i ns)
      ≡ must (leb floor (get_or ns i 0)) (Err RecordLayout)
      (must (not (eqb (get_or ns i 0) token)) (Err ListsItself)
      (numbers_from token (get_or ns i 0 + 1) (drop (i + 1) ns)))
  unfolding numbers_from
  numbers_turn h = rw (add-one i, drop-cons ns i 0, add-one (get_or ns i 0))

  pub numbers_end : length ns ≤ i → numbers_from token floor (drop i ns) ≡ passed
  unfolding numbers_from
  numbers_end h = rw (drop_of_length-le ns h)

-- the records that are left, of a part in which so many were found
module _ (part s : List ℕ) (tokens records found floor before : ℕ) where
  -- the first, and those after it
  pub records_turn : 1 ≤ length s → length s + found ≤ length part →
      records_from tokens records (suc (length part - found)) found floor before s
      ≡ both (record_check tokens floor before s)
      (records_from tokens records (suc (length part - (found + 1))) (found + 1) (token_of s + 1) (before + count_of s) (after_record s))
  records_turn h l =
      let left : length part - found ≡ suc (length part - suc found) = omega arith in
      rw (records_step tokens records (length part - found) found floor before s (omega arith), left, add-one found, add-one (token_of s))

  pub records_end : length s ≡ 0 →
      records_from tokens records (suc (length part - found)) found floor before s ≡ must (eqb found records) (Err RecordLayout) passed
  unfolding records_from
  records_end h = rw h
