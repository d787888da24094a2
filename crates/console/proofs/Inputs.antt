-- The input in its buffer, case by case.
use mathlib.Core.Path.{◌≡◌, refl, sym, ap, ◌∙◌}
use mathlib.Core.Bool.{Bool, true, false}
use mathlib.Core.List.{List, [], ◌∷◌, ◌++◌}
use Prim.Native.Nat.{ℕ, zero, suc, ◌+◌, ◌-◌, ◌<◌, ◌≤◌}
use native.Mathlib.Omega.{arith}
use borrow.Author.Tests.{le-leb, lt-ltb, le-ltb, eq-eqb, ne_eqb}
use lib.ListN.{length, take, drop, set, length-drop}
use lib.Seq.{length-take-le, take-nil, take_at, drop-drop}
use Rattle.rules.specs.Lists.{must, has}
use Rattle.words.proofs.Walks.{first_some}
use Rattle.std.specs.Prelude.{Option, Some, None, IfSome, position, nat_eq}
use Rattle.serving.specs.Lines.{moved_up}
use Rattle.console.specs.declared.input.Input.{Input}
use Rattle.console.specs.Inputs.{Within, WholeLine, Arrived, more, last, pending, read_up_to, input_from, last_input, too_long, passed_line, passed_long, ended_with}

keeps : {A : Type 0} (b : Bool) (x : A) {y r : A} → b ≡ true → r ≡ y → r ≡ must b x y
keeps b x e r-is = rw e r-is

leaves : {A : Type 0} (b : Bool) {x r : A} (y : A) → b ≡ false → r ≡ x → r ≡ must b x y
leaves b y e r-is = rw e r-is

module _ (i : Input) (buffer : List ℕ) (w : Within (length buffer) i) where
  -- how much is not served yet
  pub pending_length : length (pending i buffer) ≡ i.end - i.at
  pending_length = length-take-le (i.end - i.at) (drop i.at buffer) (simp length-drop (omega arith))

  -- a newline in it ends a whole line
  pub whole_line : (found : Option ℕ) → found ≡ position (λ b. nat_eq b 10) (pending i buffer) → IfSome found (WholeLine i buffer)
  whole_line None e = tt
  whole_line (Some size) e =
      let first = first_some 10 (pending i buffer) size e in
      record { some = first.0; size_is = first.1; within = omega (arith, first.2, pending_length) }

  -- the rest of a line
  pub passed_all : has (pending i buffer) 10 ≡ false → {r : Input} → r ≡ too_long i → r ≡ passed_line i (pending i buffer)
  unfolding passed_line
  passed_all none r-is = rw none r-is

  pub passed_some : {size : ℕ} → WholeLine i buffer size →
      ◌≡◌ {A = Input} (record { at = i.at + size + 1; end = i.end; skips = false; ended = i.ended }) (passed_line i (pending i buffer))
  unfolding passed_line
  passed_some line = rw (line.some, ← line.size_is)

module _ (i : Input) (text : List ℕ) where
  pub skips : i.skips ≡ true → {r : Input} → r ≡ passed_line i text → r ≡ passed_long i text
  unfolding passed_long
  skips e r-is = keeps i.skips i e r-is

  pub skips_not : i.skips ≡ false → i ≡ passed_long i text
  unfolding passed_long
  skips_not e = leaves i.skips (passed_line i text) e refl

-- the end of the input
module _ (kept : ℕ) (buffer : List ℕ) {r : Input} where
  pub ended_none : kept ≡ 0 → r ≡ last_input 0 → (r, buffer) ≡ ended_with kept buffer
  unfolding ended_with
  ended_none h r-is = rw (eq-eqb kept 0 h, r-is)

  pub ended_full : (kept ≡ 0 → ⊥) → length buffer ≤ kept → r ≡ last_input 0 → (r, buffer) ≡ ended_with kept buffer
  unfolding ended_with
  ended_full n h r-is = rw (ne_eqb kept 0 n, le-ltb kept (length buffer) h, r-is)

  pub ended_line : (kept ≡ 0 → ⊥) → kept < length buffer → r ≡ last_input (kept + 1) → (r, set buffer kept 10) ≡ ended_with kept buffer
  unfolding ended_with
  ended_line n h r-is = rw (ne_eqb kept 0 n, lt-ltb kept (length buffer) h, r-is)

-- part of a part
drop_take : (k n : ℕ) (s : List ℕ) → drop k (take n s) ≡ take (n - k) (drop k s)
drop_take zero n s = let all : n ≡ n - 0 = omega arith in ap (λ m. take m s) all
drop_take (suc k) zero s = let empty : 0 ≡ zero - suc k = omega arith in ap (λ m. take m (drop (suc k) s)) empty
drop_take (suc k) (suc n) [] = sym (take-nil (suc n - suc k))
drop_take (suc k) (suc n) (b ∷ s) = let same : n - k ≡ suc n - suc k = omega arith in drop_take k n s ∙ ap (λ m. take m (drop k s)) same

-- where more of the input is served, less is left of it
pub pending_from : (i : Input) (buffer : List ℕ) (k : ℕ) → pending (input_from i (i.at + k)) buffer ≡ drop k (pending i buffer)
pending_from i buffer k =
    let size : i.end - i.at - k ≡ i.end - (i.at + k) = omega arith in
    sym (drop_take k (i.end - i.at) (drop i.at buffer) ∙ ap (take (i.end - i.at - k)) (drop-drop k i.at buffer) ∙
    ap (λ n. take n (drop (i.at + k) buffer)) size)

-- more is read behind what is left
module _ (i : Input) (buffer : List ℕ) (w : Within (length buffer) i) {kept : ℕ} {front : List ℕ} (e : (kept, front) ≡ moved_up i.at i.end buffer) where
  moved_is : moved_up i.at i.end buffer ≡ (i.end - i.at, pending i buffer ++ drop (i.end - i.at) buffer)
  unfolding moved_up
  moved_is = rw (le-leb i.end (length buffer) w.end, le-leb i.at i.end w.at)

  kept_is : kept ≡ length (pending i buffer)
  kept_is = ap (λ (x : ℕ × List ℕ). x.0) (e ∙ moved_is) ∙ sym (pending_length i buffer w)

  front_is : take kept front ≡ pending i buffer
  front_is =
      ap (take kept) (ap (λ (x : ℕ × List ℕ). x.1) (e ∙ moved_is)) ∙
      take_at (pending i buffer) (drop (i.end - i.at) buffer) kept (sym kept_is)

  pub arrived_more : (count : ℕ) {r : Input} {after : List ℕ} → (count ≡ 0 → ⊥) → take kept after ≡ take kept front →
      r ≡ passed_long (read_up_to i (kept + count)) (pending (read_up_to i (kept + count)) after) → Arrived i (pending i buffer) r after
  arrived_more count n f r-is = more count (omega arith) (rw (← kept_is) (f ∙ front_is)) (rw (← kept_is) r-is)

  pub arrived_last : (before : List ℕ) {r : Input} {after : List ℕ} → take kept before ≡ take kept front → (r, after) ≡ ended_with kept before →
      Arrived i (pending i buffer) r after
  arrived_last before f r-is = last before (rw (← kept_is) (f ∙ front_is)) (rw (← kept_is) r-is)
