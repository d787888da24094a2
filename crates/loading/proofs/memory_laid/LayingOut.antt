-- Clearing the memory, copying the records and marking where they stand lays it out.
use mathlib.Core.Path.{◌≡◌, refl, sym, ap, ◌∙◌}
use mathlib.Core.Logic.{by_cases}
use mathlib.Core.List.{List, [], ◌∷◌, ◌++◌, map, append_assoc}
use Prim.Native.Nat.{ℕ, suc, ◌+◌, ◌-◌, ◌≤◌, ◌<◌}
use native.Mathlib.Omega.{arith}
use native.Mathlib.Nat.{zero-add, suc-add}
use native.Mathlib.Numerals.{add-one}
use native.Mathlib.Decide.{ℕ_discrete}
use borrow.Author.Tests.{eq-eqb, ne_eqb, eqb-true}
use lib.Dec.{eqb}
use lib.ListN.{length, get_or, take, drop, set, replicate, length-append, length-set, replicate-append-replicate}
use lib.Seq.{length-take-le, sets, sets-eq, drop_at, set-append_left, get_or-set_same, get_or-set_other, ext_get_or}
use Rattle.rules.specs.Lists.{if, table}
use Rattle.rules.proofs.lists.Tests.{by_test}
use Rattle.rules.proofs.lists.ListTables.{get_d_table, length_table}
use Rattle.plan.specs.Plan.{Record, ValidRecord, AscendingFrom}
use Rattle.rules.specs.Lists.{Every}
use Rattle.loading.specs.Plans.{filled_up}
use Rattle.loading.specs.Layout.{records_fields, place_of, zeros, laid_facts, laid_out, Spells, pointed}
use Rattle.loading.proofs.memory_laid.RecordWalk.{laying}
use Rattle.loading.proofs.memory_laid.LayoutLaws.{length_zeros, length_filled, zeros_at}

-- runs of zeros
zeros_append : (a b : ℕ) → zeros a ++ zeros b ≡ zeros (a + b)
unfolding zeros
zeros_append a b = replicate-append-replicate a b 0

-- a list that is stored over the front of another, and at the front of zeros
stored : (l z rest : List ℕ) → length z ≡ length l → sets (z ++ rest) 0 l ≡ l ++ rest
stored l z rest e =
    sets-eq l (z ++ rest) 0 (omega (arith, length-append z rest)) ∙ ap (λ (d : List ℕ). l ++ d) (drop_at z rest (0 + length l) (omega arith))

copied : (k : ℕ) (l rest : List ℕ) → length l ≤ k → sets (zeros k ++ rest) 0 l ≡ l ++ (zeros (k - length l) ++ rest)
copied k l rest h =
    let k_is : length l + (k - length l) ≡ k = omega arith in
    ap (λ i. sets (zeros i ++ rest) 0 l) (sym k_is)
    ∙ rw (← zeros_append (length l) (k - length l), append_assoc (zeros (length l)) (zeros (k - length l)) rest)
    (stored l (zeros (length l)) (zeros (k - length l) ++ rest) (length_zeros (length l)))

-- the place of a token below all records' tokens is 0
place_none : (from floor : ℕ) (rs : List Record) (n : ℕ) → AscendingFrom floor (map (λ r. r.token) rs) → n < floor → place_of from rs n ≡ 0
unfolding place_of
place_none from floor [] n up h = refl
place_none from floor (r ∷ rs) n up h =
    rw (ne_eqb r.token n (omega (arith, up.0))) (place_none (from + (1 + length r.numbers)) (suc r.token) rs n up.1 (omega (arith, up.0)))

-- a number, by the test whether it is 0
if_zero : (n : ℕ) → if (eqb n 0) 0 n ≡ n
if_zero n = by_test (eqb n 0) (λ e. rw e (sym (eqb-true n 0 e))) (λ e. rw e)

-- the places of the tokens, marked in a table
marks_in : List ℕ → ℕ → List Record → List ℕ
marks_in t from [] = t
marks_in t from (r ∷ rs) = marks_in (set t r.token (from + 1)) (from + (1 + length r.numbers)) rs

length_marks : (t : List ℕ) (from : ℕ) (rs : List Record) → length (marks_in t from rs) ≡ length t
unfolding marks_in
length_marks t from [] = refl
length_marks t from (r ∷ rs) = length_marks (set t r.token (from + 1)) _ rs ∙ length-set t r.token (from + 1)

-- a table of zeros holds then the place of each token
mark_at : (t : List ℕ) (from floor : ℕ) (rs : List Record) (n : ℕ) → AscendingFrom floor (map (λ r. r.token) rs) → n < length t →
    get_or (marks_in t from rs) n 0 ≡ if (eqb (place_of from rs n) 0) (get_or t n 0) (place_of from rs n)
unfolding marks_in place_of
mark_at t from floor [] n up h = refl
mark_at t from floor (r ∷ rs) n up h =
    let later = mark_at (set t r.token (from + 1)) (from + (1 + length r.numbers)) (suc r.token) rs n up.1 (rw length-set h) in
    by_cases (ℕ_discrete r.token n)
    (λ e. later ∙ rw (
      place_none (from + (1 + length r.numbers)) (suc r.token) rs n up.1 (omega arith),
      eq-eqb r.token n e,
      ne_eqb (suc from) 0 (omega arith),
      add-one from,
    ) (ap (λ i. get_or (set t i (suc from)) n 0) e ∙ get_or-set_same t n (suc from) 0 h))
    (λ e. later ∙ rw (ne_eqb r.token n e, get_or-set_other t r.token n (from + 1) 0 (λ q. e (sym q))))

-- so a table of zeros becomes the table of places
places_are : (rs : List Record) → AscendingFrom 0 (map (λ r. r.token) rs) → (n : ℕ) → marks_in (zeros n) 0 rs ≡ table n (place_of 0 rs)
places_are rs up n = ext_get_or 0 (marks_in (zeros n) 0 rs) (table n (place_of 0 rs))
    (length_marks (zeros n) 0 rs ∙ length_zeros n ∙ sym (length_table n (place_of 0 rs)))
    (λ i h.
    let low : i < n = omega (arith, length_marks (zeros n) 0 rs, length_zeros n) in
    mark_at (zeros n) 0 0 rs i up (omega (arith, length_zeros n))
    ∙ rw (zeros_at n i) (if_zero (place_of 0 rs i))
    ∙ sym (get_d_table n (place_of 0 rs) i 0 low))

-- a store behind a list of known length
set_behind : (xs ys : List ℕ) (i v : ℕ) → set (xs ++ ys) (length xs + i) v ≡ xs ++ set ys i v
set_behind [] ys i v = rw zero-add
set_behind (x ∷ xs) ys i v = rw suc-add (ap (λ (l : List ℕ). x ∷ l) (set_behind xs ys i v))

set_within : (p t rest : List ℕ) (i v : ℕ) → length p ≡ 12288 → i < length t → set (p ++ (t ++ rest)) (12288 + i) v ≡ p ++ (set t i v ++ rest)
set_within p t rest i v e h = rw (← e) (set_behind p (t ++ rest) i v ∙ ap (λ (l : List ℕ). p ++ l) (set-append_left t rest i v h))

-- marking the places in memory is marking them in its table
pointed_in : (p t rest : List ℕ) (from : ℕ) (rs : List Record) → length p ≡ 12288 → length t ≡ 4096 → Every (ValidRecord 4096) rs →
    pointed (p ++ (t ++ rest)) from rs ≡ p ++ (marks_in t from rs ++ rest)
unfolding pointed marks_in
pointed_in p t rest from [] e f each = refl
pointed_in p t rest from (r ∷ rs) e f each =
    rw (set_within p t rest r.token (from + 1) e (omega (arith, each.0.entered)))
    (pointed_in p (set t r.token (from + 1)) rest _ rs e (rw length-set f) each.1)

-- how the parts of the memory are bracketed
inner : (f z a b c d : List ℕ) → f ++ ((z ++ (a ++ (b ++ c))) ++ d) ≡ (f ++ z) ++ (a ++ (b ++ (c ++ d)))
inner f z a b c d = simp append_assoc

outer : (x t b c d : List ℕ) → x ++ (t ++ (b ++ (c ++ d))) ≡ (x ++ (t ++ b)) ++ (c ++ d)
outer x t b c d = simp append_assoc

filled_zeros : (n : ℕ) (l : List ℕ) → l ++ zeros (n - length l) ≡ filled_up n 0 l
unfolding zeros
filled_zeros n l = refl

zeros_parts : (k : ℕ) → k ≤ 12288 → zeros (32768 - k) ≡ zeros (12288 - k) ++ (zeros 4096 ++ (zeros 4096 ++ zeros 12288))
zeros_parts k h = rw (zeros_append 4096 12288, zeros_append 4096 16384, zeros_append (12288 - k) 20480) (ap zeros (omega arith))

module _ (part m : List ℕ) (rs : List Record) (spells : Spells part rs) where
  -- the memory with the records copied
  abbrev copied_memory : List ℕ
  copied_memory = sets (zeros 32768 ++ drop 32768 m) 0 (records_fields rs)

  copied_is : copied_memory ≡ filled_up 12288 0 (records_fields rs) ++ (zeros 4096 ++ (zeros 4096 ++ (zeros 12288 ++ drop 32768 m)))
  copied_is =
      rw (
        copied 32768 (records_fields rs) (drop 32768 m) (omega (arith, spells.fits)),
        zeros_parts (length (records_fields rs)) spells.fits,
        ← filled_zeros 12288 (records_fields rs),
      )
      (inner (records_fields rs) (zeros (12288 - length (records_fields rs))) (zeros 4096) (zeros 4096) (zeros 12288) (drop 32768 m))

  -- clearing, copying and marking lays the memory out
  laid_out_lem : pointed copied_memory 0 rs ≡ laid_out rs m
  unfolding laid_out laid_facts
  laid_out_lem =
      rw (
        copied_is,
        pointed_in (filled_up 12288 0 (records_fields rs)) (zeros 4096) (zeros 4096 ++ (zeros 12288 ++ drop 32768 m)) 0 rs
            (length_filled 12288 0 (records_fields rs) spells.fits) (length_zeros 4096) spells.each,
        places_are rs spells.ascending 4096,
      )
      (outer (filled_up 12288 0 (records_fields rs)) (table 4096 (place_of 0 rs)) (zeros 4096) (zeros 12288) (drop 32768 m))

  pub laid_by : {cleared laid : List ℕ} → 32768 ≤ length m → cleared ≡ replicate (length (take 32768 m)) 0 →
      laid ≡ laying (cleared ++ drop 32768 m) 0 rs → laid ≡ laid_out rs m
  unfolding zeros
  laid_by h c e = e ∙ rw (c, length-take-le 32768 m h) laid_out_lem
