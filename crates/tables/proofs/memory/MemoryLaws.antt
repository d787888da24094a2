-- What the writes of the tables do to the standings, the records, the deferred table and the ready queue.
use mathlib.Core.Path.{◌≡◌, refl, sym, ap, ◌∙◌}
use mathlib.Core.Bool.{Bool, true, false}
use mathlib.Core.List.{List, [], ◌∷◌, ◌++◌}
use Prim.Native.Nat.{ℕ, ◌+◌, ◌-◌, ◌<◌, ◌≤◌}
use native.Mathlib.Omega.{arith}
use borrow.Author.Tests.{ltb-true, ltb-false, ne_eqb, eqb-true, eqb-false}
use lib.Dec.{ltb, eqb}
use lib.ListN.{length, get_or, take, drop, set, length-set, length-append}
use lib.Seq.{sets, sets-eq, slice, length-take-le, get_or-take, get_or-set_same, get_or-set_other, take-set-le, drop-set-lt, take_at, drop-append-le, take-take}
use Rattle.rules.specs.Lists.{if, has, Below}
use Rattle.tables.specs.Layout.{facts_of}
use Rattle.tables.specs.Facts.{standing_of, numbers_at, numbers_of}
use Rattle.tables.specs.State.{marks}
use Rattle.tables.specs.Matching.{Recorded}
use Rattle.tables.proofs.memory.FactsLaws.{standing_none, at_beyond, numbers_within}
use Rattle.tables.proofs.memory.Cells.{facts_length, take_less, drop_more, cell_below, slice_from}
use Rattle.rules.proofs.lists.Tests.{by_test}

-- the standing of a number after one token got a new one
module _ (m : List ℕ) (whole : 32768 ≤ length m) (t v n : ℕ) (low : t < 4096) where
  standing_low : n < 4096 → standing_of (take 20480 (set m (16384 + t) v)) n ≡ if (eqb t n) v (standing_of (take 20480 m) n)
  unfolding standing_of
  standing_low h =
      rw (get_or-take 20480 (set m (16384 + t) v) (16384 + n) 0 (omega arith), get_or-take 20480 m (16384 + n) 0 (omega arith))
      (by_test (eqb t n)
      (λ e. let x : t ≡ n = eqb-true t n e in rw (e, ← x) (get_or-set_same m (16384 + t) v 0 (omega arith)))
      (λ e. let x : t ≡ n → ⊥ = eqb-false t n e in rw e (get_or-set_other m (16384 + t) (16384 + n) v 0 (λ y. x (omega arith)))))

  pub standing_set : standing_of (take 20480 (set m (16384 + t) v)) n ≡ if (eqb t n) v (standing_of (take 20480 m) n)
  standing_set =
      by_test (ltb n 4096)
      (λ e. standing_low (ltb-true n 4096 e))
      (λ e. let h : 4096 ≤ n = ltb-false n 4096 e in
      rw (ne_eqb t n (λ x. omega arith))
      (sym (standing_none (take 20480 (set m (16384 + t) v)) n (facts_length (set m (16384 + t) v) (simp length-set whole)) h)
      ∙ standing_none (take 20480 m) n (facts_length m whole) h))

-- marks: their length, what they leave alone, and the standings after them
pub length_marks : (m : List ℕ) (v : ℕ) (ts : List ℕ) → length (marks m v ts) ≡ length m
unfolding marks
length_marks m v [] = refl
length_marks m v (t ∷ ts) = length_marks (set m (16384 + t) v) v ts ∙ length-set m (16384 + t) v

pub take_marks : (m : List ℕ) (v : ℕ) (ts : List ℕ) → take 16384 (marks m v ts) ≡ take 16384 m
unfolding marks
take_marks m v [] = refl
take_marks m v (t ∷ ts) = take_marks (set m (16384 + t) v) v ts ∙ take-set-le 16384 m (16384 + t) v (omega arith)

pub drop_marks : (m : List ℕ) (v : ℕ) (ts : List ℕ) → Below 4096 ts → drop 20480 (marks m v ts) ≡ drop 20480 m
unfolding marks
drop_marks m v [] b = refl
drop_marks m v (t ∷ ts) b = drop_marks (set m (16384 + t) v) v ts b.1 ∙ drop-set-lt 20480 m (16384 + t) v (omega (arith, b.0))

pub standing_marks : (m : List ℕ) (v : ℕ) (ts : List ℕ) → 32768 ≤ length m → Below 4096 ts → (n : ℕ)
    → standing_of (take 20480 (marks m v ts)) n ≡ if (has ts n) v (standing_of (take 20480 m) n)
unfolding marks has
standing_marks m v [] whole b n = refl
standing_marks m v (t ∷ ts) whole b n =
    standing_marks (set m (16384 + t) v) v ts (simp length-set whole) b.1 n
    ∙ rw (standing_set m whole t v n b.0) (go (has ts n) (eqb t n) (standing_of (take 20480 m) n))
  where
    go : (x y : Bool) (s : ℕ) → if x v (if y v s) ≡ if (if y true x) v s
    go true true s = refl
    go true false s = refl
    go false true s = refl
    go false false s = refl

-- the records depend on the cells below the standings only
module _ (f f' : List ℕ) (same : take 16384 f' ≡ take 16384 f) (n : ℕ) (low : n < 4096) where
  at_same : (place : ℕ) → numbers_at f' place ≡ numbers_at f place
  unfolding numbers_at
  at_same place =
      by_test (ltb place 16384)
      (λ e. rw (cell_below f f' 16384 (place - 1) same (omega (arith, ltb-true place 16384 e))))
      (λ e. let h : 16384 ≤ place = ltb-false place 16384 e in
      sym (at_beyond f' {place = place} refl (λ x. omega arith) (omega arith)) ∙ at_beyond f {place = place} refl (λ x. omega arith) (omega arith))

  numbers_same : numbers_of f' n ≡ numbers_of f n
  unfolding numbers_of
  numbers_same = rw (cell_below f f' 16384 (12288 + n) same (omega arith)) (at_same (get_or f (12288 + n) 0))

  recorded_same : {ns : List ℕ} → 16384 ≤ length f → 16384 ≤ length f' → Recorded f n ns → Recorded f' n ns
  recorded_same {ns} long long' r =
      let a : ℕ = r.0 in
      let b : ℕ = r.1 in
      let w = numbers_within f n refl r.2 in
      let b_is : a + (b - a) ≡ b = omega (arith, w.0) in
      let part : slice a b f' ≡ slice a b f = ap (λ (l : List ℕ). drop a l) (take_less f f' 16384 b same (omega (arith, w.1))) in (
        a,
        b,
        numbers_same ∙ r.2,
        sym (slice_from f' a (b - a) (omega (arith, w.0, w.1))) ∙ rw b_is part ∙ (rw b_is at (slice_from f a (b - a) (omega (arith, w.0, w.1)))) ∙ r.3,
      )

-- so a memory with the same cells below the standings has the same records
pub recorded_kept : (m m' : List ℕ) → take 16384 m' ≡ take 16384 m → length m' ≡ length m → 32768 ≤ length m →
    (n : ℕ) → n < 4096 → {ns : List ℕ} → Recorded (facts_of m) n ns → Recorded (facts_of m') n ns
recorded_kept m m' same long whole n low r =
    let short : length (facts_of m) ≡ 20480 = facts_length m whole in
    let short' : length (facts_of m') ≡ 20480 = facts_length m' (omega arith) in
    recorded_same (facts_of m) (facts_of m')
    (take-take 16384 20480 m' (omega arith) ∙ same ∙ sym (take-take 16384 20480 m (omega arith))) n low (omega arith) (omega arith) r

-- a run of stores at the end of some cells appends to them
pub slice_append : (vs m : List ℕ) (f e : ℕ) → f ≤ e → e + length vs ≤ length m → slice f (e + length vs) (sets m e vs) ≡ slice f e m ++ vs
slice_append vs m f e h l =
    let long : length (take e m) ≡ e = length-take-le e m (omega arith) in
    let both : length (take e m ++ vs) ≡ e + length vs = simp (length-append, long) in
    rw (sets-eq vs m e l, take_at (take e m ++ vs) (drop (e + length vs) m) (e + length vs) both)
    (drop-append-le f (take e m) vs (omega arith))

-- cells behind a place from which nothing changed
pub slice_same : (m m' : List ℕ) (n f e : ℕ) → drop n m' ≡ drop n m → n ≤ f → f ≤ e → e ≤ length m → length m' ≡ length m → slice f e m' ≡ slice f e m
slice_same m m' n f e same h l k long =
    let e-is : f + (e - f) ≡ e = omega arith in
    rw e-is at
    (slice_from m' f (e - f) (omega arith) ∙ ap (λ (x : List ℕ). take (e - f) x) (drop_more m m' n f same h) ∙ sym (slice_from m f (e - f) (omega arith)))
