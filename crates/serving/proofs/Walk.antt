-- A walk along the lines of a text.
use mathlib.Core.Path.{◌≡◌, refl, ap, ◌∙◌}
use mathlib.Core.Bool.{true, false}
use mathlib.Core.List.{List, [], ◌∷◌}
use Prim.Native.Nat.{ℕ, ◌+◌, ◌-◌, ◌<◌}
use native.Mathlib.Omega.{arith}
use lib.Dec.{eqb}
use lib.ListN.{length, take, drop, length-drop}
use lib.Seq.{length-take-le}
use Rattle.rules.specs.Lists.{has}
use Rattle.rules.proofs.lists.Tests.{by_test}
use Rattle.words.specs.Words.{up_to, past}
use Rattle.words.proofs.Walks.{up_to_is, past_is, rest_is, first_some}
use Rattle.std.specs.Prelude.{Some, position, nat_eq}
use Rattle.commands.specs.Commands.{command_of}
use Rattle.commands.specs.declared.Command.{Command}
use Rattle.answering.specs.Answers.{Held, answered}
use Rattle.serving.specs.Lines.{lines_in, FirstLine}
use Rattle.serving.specs.Serving.{for_program, served_from}

-- without a newline there is no whole line
pub lines_none : (s : List ℕ) → has s 10 ≡ false → lines_in s ≡ []
unfolding lines_in has
lines_none [] e = refl
lines_none (b ∷ s) e =
    by_test (eqb b 10) (λ t. let z : true ≡ false = rw t at e in let y : ◌≡◌ {A = ℕ} 0 1 = cc in absurd (omega arith))
    (λ t. rw (t, lines_none s (rw t at e)))

-- with one, the first line stands before it
pub lines_some : (s : List ℕ) → has s 10 ≡ true → lines_in s ≡ up_to 10 s ∷ lines_in (past 10 s)
unfolding lines_in has up_to past
lines_some [] e = let y : ◌≡◌ {A = ℕ} 0 1 = cc in absurd (omega arith)
lines_some (b ∷ s) e = by_test (eqb b 10) (λ t. rw t) (λ t. rw (t, lines_some s (rw t at e)))

-- where the first line ends
module _ (text : List ℕ) {end : ℕ} (found : Some end ≡ position (λ b. nat_eq b 10) text) where
  pub line_within : end < length text
  line_within = (first_some 10 text end found).2

  pub a_line : FirstLine text (take end text) (take (length text - (end + 1)) (drop (end + 1) text))
  a_line =
      let first = first_some 10 text end found in
      record {
        some = first.0;
        line_is = ap (λ n. take n text) first.1 ∙ up_to_is 10 text;
        behind_is = rest_is text (end + 1) ∙ ap (λ n. drop (n + 1) text) first.1 ∙ past_is 10 text;
        size = rw (rest_is text (end + 1)) (omega (arith, length-drop (end + 1) text, length-take-le end text (omega (arith, first.2)), first.2));
      }

module _ (file rest : List ℕ) (at : ℕ) (c : Held) where
  -- no line is left
  pub served_end : has rest 10 ≡ false → (at, c) ≡ served_from file at (lines_in rest) c
  unfolding served_from
  served_end none = rw (lines_none rest none)

  -- a line is left, and asks for a command
  module _ {line behind : List ℕ} (first : FirstLine rest line behind) {command : Command} (command-is : command ≡ command_of line) where
    lines_first : lines_in rest ≡ line ∷ lines_in behind
    lines_first = rw (first.line_is, first.behind_is) (lines_some rest first.some)

    -- of the program
    pub served_own : for_program command ≡ true → (at, c) ≡ served_from file at (lines_in rest) c
    unfolding served_from
    served_own t = rw (lines_first, ← command-is, t)

    -- or answered
    pub served_turn : for_program command ≡ false → {d : Held} → d ≡ answered file command c → {next : ℕ} → next ≡ at + (length line + 1) →
        served_from file at (lines_in rest) c ≡ served_from file next (lines_in behind) d
    unfolding served_from
    served_turn t d-is next_is = rw (lines_first, ← command-is, t, d-is, next_is)
