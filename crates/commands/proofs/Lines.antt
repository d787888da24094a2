-- What a line asks for, case by case.
use mathlib.Core.Path.{◌≡◌, ap}
use mathlib.Core.Bool.{Bool, true, false, not}
use mathlib.Core.List.{List}
use Prim.Native.Nat.{ℕ, ◌+◌, ◌-◌, ◌<◌, ◌≤◌}
use borrow.Author.Tests.{le-leb, lt-leb}
use lib.ListN.{length, take, drop}
use Rattle.words.specs.Words.{up_to, past}
use Rattle.words.proofs.Walks.{up_to_is, past_is, rest_is, first_none, first_some}
use Rattle.commands.specs.Commands.{alone_of, arguments_of, asked_of}
use Rattle.commands.specs.Arguments.{space}
use Rattle.commands.specs.declared.Command.{Command}
use Rattle.std.specs.Prelude.{Option, Some, None, position, nat_eq}

module _ (line : List ℕ) where
  pub asked_long : 8191 < length line → None ≡ asked_of line
  unfolding asked_of
  asked_long h = rw (lt-leb (length line) 8191 h)

  -- where its first word ends
  module _ (fits : length line ≤ 8191) {r : Option Command} where
    pub asked_alone : None ≡ position (λ b. nat_eq b space) line → r ≡ alone_of line → r ≡ asked_of line
    unfolding asked_of
    asked_alone none r-is = rw (le-leb (length line) 8191 fits, first_none space line none) r-is

    pub asked_arguments : {end : ℕ} → Some end ≡ position (λ b. nat_eq b space) line →
        r ≡ arguments_of (take end line) (end + 1) (take (length line - (end + 1)) (drop (end + 1) line)) → r ≡ asked_of line
    unfolding asked_of
    asked_arguments {end} found r-is =
        let first = first_some space line end found in
        let word : take end line ≡ up_to space line = rw first.1 (up_to_is space line) in
        let rest : drop (end + 1) line ≡ past space line = rw first.1 (past_is space line) in
        rw (le-leb (length line) 8191 fits, first.0, ← first.1, ← word, ← rest, ← rest_is line (end + 1)) r-is

pub flipped : (b : Bool) {x : Bool} → not b ≡ x → b ≡ not x
flipped true e = ap not e
flipped false e = ap not e

pub space_within : (line : List ℕ) {end : ℕ} → Some end ≡ position (λ b. nat_eq b space) line → end < length line
space_within line {end} found = (first_some space line end found).2
