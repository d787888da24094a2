-- The laid-out memory has every token's record, and every standing 0.
use Rattle.std.proofs.Common.{Ok}
use mathlib.Core.Path.{◌≡◌, refl, sym, ap, ◌∙◌}
use mathlib.Core.Bool.{false}
use mathlib.Core.List.{List, [], ◌∷◌, ◌++◌, append_assoc}
use Prim.Native.Nat.{ℕ, ◌+◌, ◌-◌, ◌≤◌, ◌<◌}
use native.Mathlib.Omega.{arith}
use native.Mathlib.Nat.{zero-add}
use borrow.Author.Tests.{ne_eqb, le-leb}
use lib.Dec.{eqb}
use lib.ListN.{length, get_or, take, drop, replicate, length-append, get_or-append}
use lib.Seq.{take_at, get_or_at, get_or-append-add, drop-append-add}
use Rattle.rules.specs.Lists.{table}
use Rattle.rules.specs.PlainSheet.{numbers_of}
use Rattle.rules.proofs.lists.Tests.{by_test}
use Rattle.rules.proofs.lists.ListTables.{get_d_table, length_table}
use Rattle.plan.specs.Plan.{Record, ValidRecord}
use Rattle.rules.specs.Lists.{Every}
use Rattle.tables.specs.Facts.{part, standing_of, numbers_at, numbers_of as part_of}
use Rattle.tables.specs.Matching.{Recorded}
use Rattle.loading.specs.Plans.{filled_up, numbers_in}
use Rattle.loading.specs.Layout.{record_fields, records_fields, place_of, zeros, laid_facts}
use Rattle.loading.proofs.memory_laid.LayoutLaws.{length_filled, length_zeros, zeros_at}

-- where a token's record stands among the fields of the records: nowhere, or its count after some fields
data Placed (from : ℕ) (rs : List Record) (n : ℕ) : Type 0 where
  nowhere : place_of from rs n ≡ 0 → numbers_in rs n ≡ [] → Placed from rs n
  among : (front after : List ℕ) → place_of from rs n ≡ from + length front + 1 →
      records_fields rs ≡ front ++ (length (numbers_in rs n) ∷ (numbers_in rs n ++ after)) →
      1 ≤ length (numbers_in rs n) → length (numbers_in rs n) ≤ 16 → Placed from rs n

placed : (tokens from : ℕ) (rs : List Record) (n : ℕ) → Every (ValidRecord tokens) rs → Placed from rs n
unfolding place_of records_fields numbers_of
placed tokens from [] n each = nowhere refl refl
placed tokens from (r ∷ rs) n each = by_test (eqb r.token n)
    (λ e. among [] (records_fields rs) (rw e (omega arith)) (rw e) (rw e each.0.some) (rw e each.0.most))
    (λ e. later e (placed tokens (from + (1 + length r.numbers)) rs n each.1))
  where
    later : eqb r.token n ≡ false → Placed (from + (1 + length r.numbers)) rs n → Placed from (r ∷ rs) n
    later e (nowhere at lists) = nowhere (rw e at) (rw e lists)
    later e (among front after at are some most) =
        among (record_fields r ++ front) after
        (rw (e, at) (omega (arith, length-append (record_fields r) front)))
        (rw (e, are, append_assoc r.numbers front))
        (rw e some) (rw e most)

-- memory that has a record's count and numbers after some fields has its number part there
module _ (front ns rest f : List ℕ) (are : f ≡ front ++ (length ns ∷ (ns ++ rest))) where
  count_at : get_or f (length front) 0 ≡ length ns
  count_at = rw (are, get_or_at front (length ns) (ns ++ rest) 0 (length front) refl)

  part_at : 1 ≤ length ns → length ns ≤ 16 → length front + 1 + length ns ≤ 12288 →
      numbers_at f (length front + 1) ≡ Ok (part (length front + 1) (length front + 1 + length ns))
  unfolding numbers_at
  part_at some most fits =
      let head : length front + 1 - 1 ≡ length front = omega arith in
      rw (
        head,
        count_at,
        ne_eqb (length front + 1) 0 (omega arith),
        le-leb (length front + 1 + length ns) 12288 fits,
        le-leb 1 (length ns) some,
        le-leb (length ns) 16 most,
      )

  numbers_at_lem : take (length front + 1 + length ns - (length front + 1)) (drop (length front + 1) f) ≡ ns
  numbers_at_lem = rw (are, drop-append-add front (length ns ∷ (ns ++ rest)) 1) (take_at ns rest (length front + 1 + length ns - (length front + 1)) (omega arith))

-- more behind a list is more behind its last part
regroup : (front : List ℕ) (count : ℕ) (ns after rest tail : List ℕ) {l : List ℕ} → l ≡ front ++ (count ∷ (ns ++ after)) →
    (l ++ rest) ++ tail ≡ front ++ (count ∷ (ns ++ (after ++ (rest ++ tail))))
regroup front count ns after rest tail e = rw e (simp append_assoc)

-- what stands behind a part of known length
behind : {A : Type 0} (xs ys : List A) (k n : ℕ) (d : A) → length xs ≡ k → get_or (xs ++ ys) (k + n) d ≡ get_or ys n d
behind xs ys k n d e = rw (← e) (get_or-append-add xs ys n d)

module _ (rs : List Record) (fits : length (records_fields rs) ≤ 12288) where
  pub length_facts : length (laid_facts rs) ≡ 20480
  unfolding laid_facts
  length_facts = omega (
    arith,
    length-append (filled_up 12288 0 (records_fields rs)) (table 4096 (place_of 0 rs) ++ zeros 4096),
    length-append (table 4096 (place_of 0 rs)) (zeros 4096),
    length_filled 12288 0 (records_fields rs) fits,
    length_table 4096 (place_of 0 rs),
    length_zeros 4096,
  )

  place_at : (n : ℕ) → n < 4096 → get_or (laid_facts rs) (12288 + n) 0 ≡ place_of 0 rs n
  unfolding laid_facts
  place_at n h =
      behind (filled_up 12288 0 (records_fields rs)) _ 12288 n 0 (length_filled 12288 0 (records_fields rs) fits)
      ∙ get_or-append (table 4096 (place_of 0 rs)) (zeros 4096) 0 n (rw length_table h)
      ∙ get_d_table 4096 (place_of 0 rs) n 0 h

  -- every standing is 0
  pub laid_standing : (n : ℕ) → standing_of (laid_facts rs) n ≡ 0
  unfolding laid_facts standing_of
  laid_standing n =
      let e : 16384 + n ≡ 12288 + (4096 + n) = omega arith in
      rw e (behind (filled_up 12288 0 (records_fields rs)) _ 12288 (4096 + n) 0 (length_filled 12288 0 (records_fields rs) fits)
      ∙ behind (table 4096 (place_of 0 rs)) (zeros 4096) 4096 n 0 (length_table 4096 (place_of 0 rs))
      ∙ zeros_at 4096 n)

  -- the record of each token is where its place says
  pub laid_recorded : (tokens : ℕ) → Every (ValidRecord tokens) rs → (n : ℕ) → n < 4096 → Recorded (laid_facts rs) n (numbers_in rs n)
  unfolding part_of laid_facts numbers_at
  laid_recorded tokens each n h = go (placed tokens 0 rs n each)
    where
      go : Placed 0 rs n → Recorded (laid_facts rs) n (numbers_in rs n)
      go (nowhere at lists) = (0, 0, rw (place_at n h, at), sym lists)
      go (among front after at are some most) =
          let ns : List ℕ = numbers_in rs n in
          let rest : List ℕ = after ++ (replicate (12288 - length (records_fields rs)) 0 ++ (table 4096 (place_of 0 rs) ++ zeros 4096)) in
          let shape : laid_facts rs ≡ front ++ (length ns ∷ (ns ++ rest)) = regroup front (length ns) ns after _ _ are in
          let short : length front + 1 + length ns ≤ 12288 = omega (arith, simp length-append at (ap length are)) in (
            length front + 1,
            length front + 1 + length ns,
            rw (place_at n h, at, zero-add) (part_at front ns rest (laid_facts rs) shape some most short),
            numbers_at_lem front ns rest (laid_facts rs) shape,
          )
