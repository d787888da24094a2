-- Choices in bytes, two at a time.
use Rattle.std.proofs.Common.{◌≡◌, ℕ, suc, ◌-◌, ◌<◌, ◌≤◌, List, [], ◌∷◌, length, get_or, take, drop, refl, arith}
use Rattle.std.proofs.Math.Seq.{take-length}
use Rattle.rules.specs.Choices.{choices_in}

-- the first two bytes are a choice, and the others those that are left
pub choices_turn : (bytes : List ℕ) → 2 ≤ length bytes →
    choices_in bytes ≡ record { worker = get_or bytes 0 0; line = get_or bytes 1 0 } ∷ choices_in (take (length bytes - 2) (drop 2 bytes))
unfolding choices_in
choices_turn [] h = absurd (omega arith)
choices_turn (worker ∷ []) h = absurd (omega arith)
choices_turn (worker ∷ (line ∷ rest)) h =
    let left : suc (suc (length rest)) - 2 ≡ length rest = omega arith in rw (left, take-length rest)

-- no choice in less than two
pub choices_end : (bytes : List ℕ) → length bytes < 2 → choices_in bytes ≡ []
unfolding choices_in
choices_end [] h = refl
choices_end (worker ∷ []) h = refl
choices_end (worker ∷ (line ∷ rest)) h = absurd (omega arith)
