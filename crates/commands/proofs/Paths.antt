-- The path of a command is the rest of its line.
use mathlib.Core.Path.{◌≡◌, refl, sym, ap, ◌∙◌}
use mathlib.Core.Bool.{Bool, true, false, not}
use mathlib.Core.List.{List, [], ◌∷◌}
use Prim.Native.Nat.{ℕ, ◌+◌, ◌-◌, ◌≤◌}
use native.Mathlib.Omega.{arith}
use borrow.Author.Tests.{ltb-true}
use lib.Dec.{leb}
use lib.ListN.{length, length-drop}
use Rattle.rules.specs.Lists.{has, within}
use Rattle.rules.proofs.lists.Tests.{by_test, never}
use Rattle.words.specs.Words.{up_to, past, same}
use Rattle.words.specs.Numbers.{short_of}
use Rattle.words.proofs.Walks.{past_is, has_stop}
use Rattle.std.specs.Prelude.{Option, Some, None, option_map, unwrap_or}
use Rattle.commands.proofs.Lines.{flipped}
use Rattle.commands.specs.Commands.{figures_word, sum_word, ended_word, quit_word, plan_word, open_word, choose_word, offer_word, take_word, mark_word, alone_of, is_path, plan_of, plain_of, rounded_at, rounded_of, open_of, choice_in, event_in, mark_of, arguments_of, asked_of, command_of}
use Rattle.commands.specs.Arguments.{space, words_in}
use Rattle.commands.specs.declared.JournalAt.{JournalAt}
use Rattle.commands.specs.declared.RoundingAt.{RoundingAt}
use Rattle.commands.specs.declared.Command.{Command}
use Rattle.commands.specs.declared.Command.TheVariants.{Plan, Open, OpenRounded, Choose, Offer, Take, Mark, Figures, Sum, Ended, Quit, Unknown}

-- where a command's path starts, if it has one
abbrev starts : Command → ℕ
starts (Plan start) = start
starts (Open n) = 0
starts (OpenRounded r) = r.start
starts (Choose x) = 0
starts (Offer x) = 0
starts (Take e) = 0
starts (Mark j) = j.start
starts Figures = 0
starts Sum = 0
starts Ended = 0
starts Quit = 0
starts Unknown = 0

-- a number of what may be missing
abbrev of_some : {A : Type 0} → (A → ℕ) → Option A → ℕ
of_some f (Some a) = f a
of_some f None = 0

of_some_map : {A B : Type 0} (f : B → ℕ) (g : A → B) (x : Option A) → of_some f (option_map g x) ≡ of_some (λ a. f (g a)) x
of_some_map f g (Some a) = refl
of_some_map f g None = refl

of_some_most : {A : Type 0} (f : A → ℕ) (x : Option A) {size : ℕ} → ((a : A) → f a ≤ size) → of_some f x ≤ size
of_some_most f (Some a) h = h a
of_some_most f None h = omega arith

alone_start : (word : List ℕ) → of_some starts (alone_of word) ≡ 0
unfolding alone_of
alone_start word =
    by_test (same word figures_word) (λ e. rw e)
    (λ e. by_test (same word sum_word) (λ f. rw (e, f))
    (λ f. by_test (same word ended_word) (λ g. rw (e, f, g))
    (λ g. by_test (same word quit_word) (λ h. rw (e, f, g, h)) (λ h. rw (e, f, g, h)))))

-- a path has a byte at least
path_some : (path : List ℕ) → is_path path ≡ true → 1 ≤ length path
unfolding is_path within
path_some [] e = absurd (never (sym e))
path_some (b ∷ path) e = omega arith

module _ (text : List ℕ) (some : is_path (past space text) ≡ true) where
  -- so it ends with its text, and starts behind the first word
  path_behind : length (up_to space text) + 1 + length (past space text) ≡ length text
  path_behind = omega (arith, path_some (past space text) some, ap length (past_is space text), length-drop (length (up_to space text) + 1) text)

-- `mark W PATH`, as read
module _ (start : ℕ) (text : List ℕ) {path : List ℕ} (path-is : path ≡ past space text) {b : Bool} (b_is : b ≡ is_path path) where
  pub mark_unread : not b ≡ true → None ≡ mark_of start text
  unfolding mark_of
  mark_unread f = rw (← path-is, ← b_is, flipped b f)

  pub mark_read : {r : Option JournalAt} → not b ≡ false →
      r ≡ option_map (λ w. record { workers = w; start = start + (length text - length path) }) (short_of (up_to space text)) → r ≡ mark_of start text
  unfolding mark_of
  mark_read t r-is =
      let some : is_path (past space text) ≡ true = ap is_path (sym path-is) ∙ sym b_is ∙ flipped b t in
      let at : length text - length path ≡ length (up_to space text) + 1 = omega (arith, path_behind text some, ap length path-is) in
      rw (some, ← at) r-is

rounded_number : (w p b : Option ℕ) {start size : ℕ} → start ≤ size → of_some (λ r. r.start) (rounded_at start w p b) ≤ size
rounded_number (Some w) (Some p) (Some b) h = h
rounded_number (Some w) (Some p) None h = omega arith
rounded_number (Some w) None b h = omega arith
rounded_number None p b h = omega arith

module _ (start size : ℕ) (text : List ℕ) (h : start + length text ≤ size) where
  plan_start : of_some starts (plan_of start text) ≤ size
  unfolding plan_of
  plan_start = by_test (is_path text) (λ e. rw e (omega arith)) (λ e. rw e (omega arith))

  mark_start : of_some (λ j. j.start) (mark_of start text) ≤ size
  unfolding mark_of
  mark_start =
      by_test (is_path (past space text))
      (λ e. rw (e, of_some_map (λ (j : JournalAt). j.start)) (of_some_most _ (short_of (up_to space text)) (λ w. omega (arith, path_behind text e))))
      (λ e. rw e (omega arith))

  rounded_start : of_some (λ r. r.start) (rounded_of start text) ≤ size
  unfolding rounded_of
  rounded_start =
      let fromPipe : List ℕ = past space text in
      let fromBase : List ℕ = past space fromPipe in
      by_test (is_path (past space fromBase))
      (λ e. rw e (rounded_number (short_of (up_to space text)) (short_of (up_to space fromPipe)) (short_of (up_to space fromBase)) (omega arith)))
      (λ e. rw e (omega arith))

  open_start : of_some starts (open_of start text) ≤ size
  unfolding open_of plain_of
  open_start =
      by_test (has text space) (λ e. rw (e, of_some_map starts OpenRounded) rounded_start)
      (λ e. rw (e, of_some_map starts Open) (of_some_most _ (short_of text) (λ w. omega arith)))

  none_start : {A : Type 0} (command : A → Command) (x : Option A) → ((a : A) → starts (command a) ≡ 0) → of_some starts (option_map command x) ≤ size
  none_start command x f = rw (of_some_map starts command) (of_some_most _ x (λ a. omega (arith, f a)))

  arguments_start : (word : List ℕ) → of_some starts (arguments_of word start text) ≤ size
  unfolding arguments_of
  arguments_start word =
      by_test (same word plan_word) (λ e. rw e plan_start)
      (λ e. by_test (same word open_word) (λ f. rw (e, f) open_start)
      (λ f. by_test (same word choose_word) (λ g. rw (e, f, g) (none_start Choose (choice_in (words_in text)) (λ a. refl)))
      (λ g. by_test (same word offer_word) (λ k. rw (e, f, g, k) (none_start Offer (choice_in (words_in text)) (λ a. refl)))
      (λ k. by_test (same word take_word) (λ l. rw (e, f, g, k, l) (none_start Take (event_in (words_in text)) (λ a. refl)))
      (λ l. by_test (same word mark_word) (λ n. rw (e, f, g, k, l, n, of_some_map starts Mark) mark_start)
      (λ n. rw (e, f, g, k, l, n) (omega arith)))))))

module _ (line : List ℕ) (some : has line space ≡ true) where
  -- the arguments end with the line
  arguments_fit : length (up_to space line) + 1 + length (past space line) ≤ length line
  arguments_fit =
      let inside = ltb-true (length (up_to space line)) (length line) (sym (has_stop space line) ∙ some) in
      omega (arith, inside, ap length (past_is space line), length-drop (length (up_to space line) + 1) line)

-- a path starts within the line
asked_start : (line : List ℕ) → of_some starts (asked_of line) ≤ length line
unfolding asked_of
asked_start line =
    by_test (leb (length line) 8191)
    (λ e. by_test (has line space)
    (λ f. rw (e, f) (arguments_start (length (up_to space line) + 1) (length line) (past space line) (arguments_fit line f) (up_to space line)))
    (λ f. rw (e, f, alone_start line) (omega arith)))
    (λ e. rw e (omega arith))

command_start : (line : List ℕ) → starts (command_of line) ≤ length line
unfolding command_of
command_start line = let h = asked_start line in elim (asked_of line) as (λ x. of_some starts x ≤ length line → starts (unwrap_or x Unknown) ≤ length line) [ Some c ↦ λ f. f | None ↦ λ f. f ] h

pub plan_within : (line : List ℕ) {start : ℕ} → command_of line ≡ Plan start → start ≤ length line
plan_within line e = rw e at (command_start line)

pub mark_within : (line : List ℕ) {j : JournalAt} → command_of line ≡ Mark j → j.start ≤ length line
mark_within line e = rw e at (command_start line)

pub rounding_within : (line : List ℕ) {r : RoundingAt} → command_of line ≡ OpenRounded r → r.start ≤ length line
rounding_within line e = rw e at (command_start line)
