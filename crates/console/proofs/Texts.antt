-- What is read comes behind what was left: between two turns nothing of the input is lost.
use mathlib.Core.Path.{◌≡◌, sym, ap, ◌∙◌}
use mathlib.Core.Bool.{false}
use mathlib.Core.List.{List, [], ◌∷◌, ◌++◌, append-nil}
use Prim.Native.Nat.{ℕ, ◌+◌, ◌-◌, ◌<◌}
use native.Mathlib.Omega.{arith}
use native.Mathlib.Numerals.{add-one}
use borrow.Author.Tests.{ltb-true, ltb-false}
use lib.Dec.{ltb}
use lib.ListN.{length, take, drop, set}
use lib.Seq.{take-add, take-suc-set}
use Rattle.rules.proofs.lists.Tests.{by_test, same, other, same_as}
use Rattle.console.specs.declared.input.Input.{Input}
use Rattle.console.specs.Inputs.{Arrived, more, last, Behind, pending, read_up_to, last_input, ended_with}
use Rattle.console.proofs.Inputs.{skips_not}

-- the first bytes of a buffer
front : (n : ℕ) (buffer : List ℕ) → take (n - 0) (drop 0 buffer) ≡ take n buffer
front n buffer = let all : n - 0 ≡ n = omega arith in ap (λ m. take m buffer) all

module _ (left buffer before : List ℕ) {r : Input} (t : take (length left) before ≡ left) where
  -- nothing was left
  behind_none : length left ≡ 0 → r ≡ last_input 0 → Behind left r buffer
  behind_none z r-is =
      let empty : left ≡ [] = sym t ∙ ap (λ n. take n before) z in
      record { read = []; text = ap (λ x. pending x buffer) r-is ∙ front 0 buffer ∙ sym empty ∙ sym (append-nil left) }

  -- a newline ends what was left
  behind_line : length left < length before → r ≡ last_input (length left + 1) → buffer ≡ set before (length left) 10 → Behind left r buffer
  behind_line h r-is b_is =
      let ended : take (length left + 1) (set before (length left) 10) ≡ take (length left) before ++ (10 ∷ []) = rw add-one (take-suc-set before (length left) 10 h) in
      record {
        read = 10 ∷ [];
        text =
            ap (λ x. pending x buffer) r-is ∙ front (length left + 1) buffer ∙ ap (take (length left + 1)) b_is ∙ ended ∙
            ap (λ l. l ++ (10 ∷ [])) t;
      }

-- where the buffer has room for more than is left, and no line is passed over
pub arrived_behind : {i : Input} {left : List ℕ} {r : Input} {buffer : List ℕ} → i.skips ≡ false → length left < length buffer →
    Arrived i left r buffer → Behind left r buffer
unfolding ended_with
arrived_behind {i} {left} {r} {buffer} s room (more count h t r-is) =
    let end : ℕ = length left + count in
    record {
      read = take count (drop (length left) buffer);
      text =
          ap (λ x. pending x buffer) (r-is ∙ sym (skips_not (read_up_to i end) (pending (read_up_to i end) buffer) s)) ∙ front end buffer ∙
          take-add (length left) count buffer ∙ ap (λ l. l ++ take count (drop (length left) buffer)) t;
    }
arrived_behind {i} {left} {r} {buffer} s room (last before t e) =
    elim (same_as (length left) 0) [
      | same z b ↦ let q : ◌≡◌ {A = Input × List ℕ} (r, buffer) (last_input 0, before) = rw b at e in
          behind_none left buffer before t z (ap (λ (x : Input × List ℕ). x.0) q)
      | other n b ↦ by_test (ltb (length left) (length before))
          (λ f. let q : ◌≡◌ {A = Input × List ℕ} (r, buffer) (last_input (length left + 1), set before (length left) 10) = rw (b, f) at e in
          behind_line left buffer before t (ltb-true (length left) (length before) f) (ap (λ (x : Input × List ℕ). x.0) q) (ap (λ (x : Input × List ℕ). x.1) q))
          (λ f. let q : ◌≡◌ {A = Input × List ℕ} (r, buffer) (last_input 0, before) = rw (b, f) at e in
          let same_size : length buffer ≡ length before = ap (λ (x : Input × List ℕ). length x.1) q in
          absurd (omega (arith, ltb-false (length left) (length before) f, same_size, room)))
    ]
