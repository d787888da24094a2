-- `open`, as the code reads it.
use mathlib.Core.Path.{◌≡◌}
use mathlib.Core.Bool.{Bool, true, false, not}
use mathlib.Core.List.{List}
use Prim.Native.Nat.{ℕ, ◌+◌, ◌-◌}
use lib.ListN.{length}
use Rattle.std.specs.Prelude.{Option, None}
use Rattle.words.specs.Words.{up_to, past}
use Rattle.words.specs.Numbers.{short_of}
use Rattle.commands.specs.Arguments.{space}
use Rattle.commands.specs.Commands.{is_path, plain_of, rounded_at, rounded_of, open_of}
use Rattle.commands.specs.declared.Command.{Command}
use Rattle.commands.specs.declared.Command.TheVariants.{Open, OpenRounded}
use Rattle.rules.proofs.lists.Tests.{by_test}
use lib.Dec.{eqb}
use mathlib.Core.Path.{refl}
use mathlib.Core.List.{[], ◌∷◌}
use Rattle.std.specs.Prelude.{option_map}
use Rattle.std.specs.List.{list_any}
use Rattle.rules.specs.Lists.{has}
use Rattle.commands.proofs.Lines.{flipped}
use Rattle.commands.specs.declared.RoundingAt.{RoundingAt}

-- `open W PIPE BASE PATH`: what follows each word
module _ (start : ℕ) (text : List ℕ) {fromPipe fromBase path : List ℕ} (pipe-is : fromPipe ≡ past space text) (base_is : fromBase ≡ past space fromPipe)
    (path-is : path ≡ past space fromBase) {b : Bool} (b_is : b ≡ is_path path) where
  pub rounded_read : {r : Option RoundingAt} → not b ≡ false →
      r ≡ rounded_at (start + (length text - length path)) (short_of (up_to space text)) (short_of (up_to space fromPipe)) (short_of (up_to space fromBase)) →
      r ≡ rounded_of start text
  unfolding rounded_of
  rounded_read t r-is = rw (← pipe-is, ← base_is, ← path-is, ← b_is, flipped b t) r-is

  pub rounded_unread : not b ≡ true → None ≡ rounded_of start text
  unfolding rounded_of
  rounded_unread f = rw (← pipe-is, ← base_is, ← path-is, ← b_is, flipped b f)

has_any : (n : ℕ) (s : List ℕ) → list_any (λ m. eqb m n) s ≡ has s n
unfolding has
has_any n [] = refl
has_any n (b ∷ s) = let h = has_any n s in by_test (eqb b n) (λ e. rw e) (λ e. rw e h)

-- one word, or more
module _ (start : ℕ) (text : List ℕ) {b : Bool} (b_is : b ≡ list_any (λ m. eqb m space) text) {r : Option Command} where
  pub open_plain : b ≡ false → r ≡ option_map Open (short_of text) → r ≡ open_of start text
  unfolding open_of plain_of
  open_plain f r-is = rw (← has_any space text, ← b_is, f) r-is

  pub open_rounded : b ≡ true → r ≡ option_map OpenRounded (rounded_of start text) → r ≡ open_of start text
  unfolding open_of
  open_rounded t r-is = rw (← has_any space text, ← b_is, t) r-is
