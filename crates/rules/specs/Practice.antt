-- Practice orders by number (02, 2.5), over any source of tokens.
use Rattle.std.specs.Prelude.{Bool, true, false, not, List, [], ◌∷◌, ℕ, zero, suc, ◌+◌, ◌*◌, ◌^◌, ◌/◌, ◌%◌, length, get_or}
use Rattle.rules.specs.Lists.{must, must_not, keep, empty, range}
use Rattle.rules.specs.Sources.{Source}
use Rattle.rules.specs.RunState.{Machine}
use Rattle.rules.specs.Ranges.{sound}
use Rattle.rules.specs.Choices.{Choice, ended, choose_by}
use Rattle.rules.specs.Offers.{is_refused}
use Rattle.rules.specs.Workers.{choice_of}
use Rattle.rules.specs.Rounding.{Run, rounding_sound}

-- "Before each choice s becomes 1664525·s + 1013904223, keeping the low 32 bits."
unfoldable pub next_number : ℕ → ℕ
next_number s = (1664525 * s + 1013904223) % 2 ^ 32

-- what a draw hands back: a choice and "the new s", or a refusal's number and "the old s"
pub data Drawing : Type 0 where
  Drew : Choice → ℕ → Drawing
  Refused : ℕ → ℕ → Drawing

-- whether a choice was drawn, which (else none: that of worker 0 and line 0), and the practice number that was handed back
abbrev pub is_drawn : Drawing → Bool
is_drawn (Drew c s) = true
is_drawn (Refused n s) = false

abbrev pub choice_in : Drawing → Choice
choice_in (Drew c s) = c
choice_in (Refused n s) = record { worker = 0; line = 0 }

abbrev pub number_in : Drawing → ℕ
number_in (Drew c s) = s
number_in (Refused n s) = s

module _ {X : Type 0} (S : Source X) where
  -- a line's "choice would be accepted (2.2's checks left out)", with practice's worker: "the line's running worker, or for a start or
  -- stop the idle one with the smallest number" (2.14)
  unfoldable pub allowed : Machine X → ℕ → Bool
  allowed m l = not (is_refused (choose_by S m (choice_of m l)).answer)

  -- "the c lines whose choice would be accepted .., in ascending order"
  unfoldable pub allowed_lines : Machine X → List ℕ
  allowed_lines m = keep (allowed m) (range 0 m.lines)

  -- "take the one at index (s / 65536, whole part) mod c, from 0", by the new s
  abbrev pub drawn_line : Machine X → ℕ → ℕ
  drawn_line m s = get_or (allowed_lines m) (next_number s / 65536 % length (allowed_lines m)) 0

  -- "Each draw hands back the line and the new s"; "A draw is refused, handing back the old s, with 14 for a spoiled state, then 11,
  -- then 14 if c is 0."
  unfoldable pub draw : Machine X → ℕ → Drawing
  draw m s =
      must (sound S m) (Refused 14 s)
      (must_not (ended m) (Refused 11 s)
      (must_not (empty (allowed_lines m)) (Refused 14 s)
      (Drew (choice_of m (drawn_line m s)) (next_number s))))

  -- the same in a run with rounding or without: "Pipe, base and T belong to the state" (2.2)
  unfoldable pub draw_rounded : Run X → ℕ → Drawing
  draw_rounded r s =
      must (rounding_sound r.machine.pipes r.machine.serial r.rounding) (Refused 14 s)
      (draw r.machine s)

  -- the worker order of so many draws: "the caller then makes that choice". It breaks off where a draw is refused.
  unfoldable pub practice_order : ℕ → Machine X → ℕ → List Choice
  practice_order zero m s = []
  practice_order (suc n) m s =
      let d : Drawing = draw m s in
      must (is_drawn d) []
      (choice_in d ∷ practice_order n (choose_by S m (choice_in d)).machine (number_in d))
