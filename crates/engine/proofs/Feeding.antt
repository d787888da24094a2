-- A list of choices, given as bytes, followed one choice at a time.
use mathlib.Core.Path.{◌≡◌, refl}
use mathlib.Core.List.{List, [], ◌∷◌}
use Prim.Native.Nat.{ℕ, suc, ◌+◌, ◌*◌, ◌<◌, ◌≤◌}
use native.Mathlib.Omega.{arith}
use lib.ListN.{length, get_or, drop, length-drop}
use lib.Seq.{drop-cons}
use Rattle.rules.specs.Sources.{Source}
use Rattle.rules.specs.RunState.{Machine}
use Rattle.rules.specs.Choices.{choices_in, choose, answers, follow}

-- no choice in less than two bytes
none_in : (bytes : List ℕ) → length bytes ≤ 1 → choices_in bytes ≡ []
unfolding choices_in
none_in [] h = refl
none_in (w ∷ []) h = refl
none_in (w ∷ (l ∷ rest)) h = absurd (omega arith)

module _ (bytes : List ℕ) (k : ℕ) where
  -- choice k is bytes 2·k and 2·k + 1
  pub choice_at_lem : 2 * k + 1 < length bytes →
      choices_in (drop (2 * k) bytes) ≡ record { worker = get_or bytes (2 * k) 0; line = get_or bytes (2 * k + 1) 0 } ∷ choices_in (drop (2 * (k + 1)) bytes)
  unfolding choices_in
  choice_at_lem h =
      let one : 2 * k + 1 ≡ suc (2 * k) = omega arith in
      let two : 2 * (k + 1) ≡ suc (suc (2 * k)) = omega arith in
      rw (one, two, drop-cons bytes (2 * k) 0 (omega arith), drop-cons bytes (suc (2 * k)) 0 (omega arith))

  pub choices_done : length bytes ≤ 2 * k + 1 → choices_in (drop (2 * k) bytes) ≡ []
  choices_done h = none_in (drop (2 * k) bytes) (omega (arith, length-drop (2 * k) bytes))

  module _ {X : Type 0} (S : Source X) (m : Machine X) where
    -- a choice leads on to what is left of the list
    pub follow_turn : (after : Machine X) → 2 * k + 1 < length bytes → after ≡ (choose S m (get_or bytes (2 * k) 0) (get_or bytes (2 * k + 1) 0)).machine →
        follow S m (choices_in (drop (2 * k) bytes)) ≡ follow S after (choices_in (drop (2 * (k + 1)) bytes))
    unfolding follow
    follow_turn after h e = rw (choice_at_lem h, e)

    -- and where none is left, nothing follows
    pub follow_end : length bytes ≤ 2 * k + 1 → follow S m (choices_in (drop (2 * k) bytes)) ≡ m
    unfolding follow
    follow_end h = rw (choices_done h)

    -- the same of what the choices answer
    pub answers_turn : 2 * k + 1 < length bytes →
        answers S m (choices_in (drop (2 * k) bytes)) ≡
        (choose S m (get_or bytes (2 * k) 0) (get_or bytes (2 * k + 1) 0)).answer ∷
        answers S (choose S m (get_or bytes (2 * k) 0) (get_or bytes (2 * k + 1) 0)).machine (choices_in (drop (2 * (k + 1)) bytes))
    unfolding answers
    answers_turn h = rw (choice_at_lem h)

    pub answers_end : length bytes ≤ 2 * k + 1 → answers S m (choices_in (drop (2 * k) bytes)) ≡ []
    unfolding answers
    answers_end h = rw (choices_done h)
