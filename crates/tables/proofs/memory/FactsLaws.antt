-- The definitions of specs/Facts, case by case, as the code meets them.
use mathlib.Core.Path.{◌≡◌, refl, sym, ap, ◌∙◌, subst}
use mathlib.Core.Bool.{Bool, true, false, true≢false}
use mathlib.Core.List.{List, [], ◌∷◌}
use Prim.Native.Nat.{ℕ, ◌+◌, ◌-◌, ◌<◌, ◌≤◌}
use native.Mathlib.Omega.{arith}
use lib.Dec.{leb, eqb}
use lib.ListN.{length, get_or, take, drop, get_or-eq_default}
use borrow.Author.Tests.{lt-leb, eq-eqb, ne_eqb, leb-true, leb-false}
use Rattle.rules.specs.Lists.{if, any, has}
use Rattle.rules.proofs.lists.Tests.{by_test, if_same}
use Rattle.std.specs.Prelude.{Some, None, Result, Ok, Err, reverse}
use Rattle.std.specs.List.{find}
use Rattle.std.specs.Option.{option_or}
use Rattle.std.proofs.lemmas.List.Folds.{find-append}
use Rattle.std.proofs.lemmas.List.{reverse-append}
use Rattle.tables.specs.declared.Spoiled.{Spoiled}
use Rattle.tables.specs.Facts.{Hold, Part, spoiled, part, standing_of, numbers_at, numbers_of, left_of, last_of, hold_as, hold_of, left_hold}
use Rattle.tables.specs.Releasing.{is_unsound}

module _ (f : List ℕ) where
  -- no token has a number from 4,096 on
  pub standing_none : (n : ℕ) → length f ≡ 20480 → 4096 ≤ n → 0 ≡ standing_of f n
  unfolding standing_of
  standing_none n e h = sym (get_or-eq_default f 0 {n = 16384 + n} (omega arith))

  -- the record at a place, where it is cut short
  pub at_beyond : {place n : ℕ} → n ≡ get_or f (place - 1) 0 → (place ≡ 0 → ⊥) → 12288 < place + n → Err spoiled ≡ numbers_at f place
  unfolding numbers_at
  at_beyond {place} {n} n-is given h = simp (← n-is, ne_eqb place 0 given, lt-leb (place + n) 12288 h)

-- the last number that passes is the first of the list walked back
pub last_is_first : (p : ℕ → Bool) (l : List ℕ) → find p (reverse l) ≡ last_of p l
unfolding last_of
last_is_first p [] = refl
last_is_first p (a ∷ l) = rw (reverse-append (a ∷ []) l, find-append p (reverse l) (a ∷ []), last_is_first p l)
    (ap (option_or (last_of p l)) (by_test (p a) (λ e. rw e) (λ e. rw e)))

-- where none passes nothing holds, and where one passes one of the list that passes
pub last_free : (p : ℕ → Bool) (l : List ℕ) → any p l ≡ false → last_of p l ≡ None
unfolding last_of any
last_free p [] e = refl
last_free p (a ∷ l) e = by_test (p a)
    (λ t. absurd (true≢false (rw t at e)))
    (λ t. rw (t, last_free p l (rw t at e)))

pub last_by : (p : ℕ → Bool) (l : List ℕ) → any p l ≡ true → (n : ℕ) × (last_of p l ≡ Some n) × (has l n ≡ true) × (p n ≡ true)
unfolding last_of any has
last_by p [] e = absurd (true≢false (sym e))
last_by p (a ∷ l) e = by_test (any p l)
    (λ later. let (n, by, in_List, passes) = last_by p l later in (n, rw by, rw in_List (if_same (eqb a n) true), passes))
    (λ none.
    let first : p a ≡ true = by_test (p a) (λ t. t) (λ t. absurd (true≢false (sym (rw (t, none) at e)))) in
    (a, rw (last_free p l none, first), rw (eq-eqb a a refl), first))

-- a record's number part lies within the records
within : Result Part Spoiled → Type 0
within (Err e) = Unit {0}
within (Ok p) = (p.start ≤ p.end) × (p.end ≤ 12288)

pick_within : (b : Bool) (x y : Result Part Spoiled) → (b ≡ true → within x) → within y → within (if b x y)
pick_within true x y hx hy = hx refl
pick_within false x y hx hy = hy

at_within : (f : List ℕ) (place : ℕ) → within (numbers_at f place)
unfolding numbers_at within
at_within f place =
    let n : ℕ = get_or f (place - 1) 0 in
    pick_within (eqb place 0) (Ok (part 0 0)) _ (λ _. omega arith)
    (pick_within (leb (place + n) 12288) _ (Err spoiled) (λ e.
    (pick_within (leb 1 n) _ (Err spoiled) (λ _.
    (pick_within (leb n 16) (Ok (part place (place + n))) (Err spoiled) (λ _. (omega arith, leb-true (place + n) 12288 e)) tt)) tt)) tt)

pub numbers_within : (f : List ℕ) (t : ℕ) {r : Result Part Spoiled} {p : Part} → r ≡ numbers_of f t → r ≡ Ok p → (p.start ≤ p.end) × (p.end ≤ 12288)
unfolding numbers_of within
numbers_within f t e h = subst within (sym e ∙ h) (at_within f _)

-- what is left to a token is another number
pub left_another : (f : List ℕ) (d n : ℕ) → left_of f d n ≡ true → eqb n d ≡ false
unfolding left_of
left_another f d n e = by_test (eqb n d)
    (λ t. absurd (true≢false (sym (sym (if_same (eqb (standing_of f n) 3) false) ∙ (rw t at e)))))
    (λ t. t)

-- the number that holds by a list passes
last_passes : (p : ℕ → Bool) (l : List ℕ) (n : ℕ) → last_of p l ≡ Some n → p n ≡ true
last_passes p l n e = by_test (any p l)
    (λ h. let (v, by, in_List, passes) = last_by p l h in let same : v ≡ n = cc in rw same at passes)
    (λ h. let free = last_free p l h in let z : ◌≡◌ {A = ℕ} 0 1 = cc in absurd (omega arith))

-- so what still holds a token is another number; and only a token below N has a good record
module _ (f : List ℕ) (tokens d t : ℕ) where
  pub left_by : (n : ℕ) → left_hold f tokens d t ≡ Ok (Some n) → eqb n d ≡ false
  unfolding left_hold hold_of hold_as
  left_by n = go (leb tokens t) (numbers_of f t)
    where
      go : (b : Bool) (r : Result Part Spoiled) → if b (Err spoiled) (hold_as f (left_of f d) r) ≡ Ok (Some n) → eqb n d ≡ false
      go true r e = let z : ◌≡◌ {A = ℕ} 0 1 = cc in absurd (omega arith)
      go false (Err x) e = let z : ◌≡◌ {A = ℕ} 0 1 = cc in absurd (omega arith)
      go false (Ok p) e = left_another f d n (last_passes (left_of f d) (take (p.end - p.start) (drop p.start f)) n cc)

  pub left_low : is_unsound (left_hold f tokens d t) ≡ false → t < tokens
  unfolding left_hold
  left_low = go (leb tokens t) refl (hold_of f (left_of f d) t)
    where
      go : (b : Bool) → leb tokens t ≡ b → (x : Hold) → is_unsound (if b (Err spoiled) x) ≡ false → t < tokens
      go true e x h = absurd (true≢false h)
      go false e x h = leb-false tokens t e
