-- A whole run with its rounding, one choice at a time.
use mathlib.Core.Path.{◌≡◌, refl, sym, ap, ◌∙◌}
use mathlib.Core.List.{List, [], ◌∷◌, ◌++◌}
use borrow.Author.Tests.{ne_eqb}
use Prim.Native.Nat.{ℕ, ◌<◌}
use Rattle.std.specs.Prelude.{Ok, Err}
use lib.ListN.{length, get_or}
use Rattle.vocabulary.specs.Refusals.{number_of}
use Rattle.vocabulary.specs.declared.refusal.Refusal.{Refusal}
use Rattle.rules.specs.Answers.{answer_of}
use Rattle.rules.specs.Choices.{Choice, choices_in}
use Rattle.rules.specs.Rounding.{choose_rounded, answers_rounded, follow_rounded}
use Rattle.rules.specs.Rounding as paper
use Rattle.rules.specs.RoundedRuns.{handed_on, figures_left}
use Rattle.tables.specs.State as tables
use Rattle.tables.specs.Calls.{memory_source}
use Rattle.state.specs.Machines.{machine_of}
use Rattle.whole_run.proofs.Summing.{none_in, choice_first}
use Rattle.opening.specs.declared.Opened as opening
use Rattle.opening.specs.Opened.{open_of}
use Rattle.rounding.specs.declared.run.Run.{Run}
use Rattle.rounding.specs.Runs.{run_of, without_rounding}
use Rattle.rounded.specs.declared.Chosen.{Chosen}
use Rattle.rounded.specs.Runs.{lent, chosen_of}
use Rattle.rounded_opening.specs.declared.Opened.{Opened}
use Rattle.rounded_opening.specs.RoundedOpenings.{RoundedOpening, open_rounded_of}
use Rattle.whole_run.specs.Checksums.{value_of, mixed, checksum}
use Rattle.rounded_run.specs.RoundedWholeRuns.{opened_with, WholeRun, made_from, whole_from, whole_rounded}

-- the opening, by its base
module _ (file : List ℕ) (workers pipe base : ℕ) (m cells figures : List ℕ) where
  abbrev pub OpenedAs : Opened → List ℕ → List ℕ → Type 0
  OpenedAs o m' f =
      (o ≡ (opened_with file workers pipe base m cells figures).returned) ×
      ((m' ≡ (opened_with file workers pipe base m cells figures).memory) × (f ≡ (opened_with file workers pipe base m cells figures).figures))

  pub plain_opening : {o : opening.Opened} {m' : List ℕ} {r : Run} → base ≡ 0 → o ≡ (open_of file workers m).0 → m' ≡ (open_of file workers m).1 →
      r ≡ without_rounding o.state → OpenedAs (record { answer = o.answer; run = r }) m' figures
  unfolding opened_with
  plain_opening e o_is m-is r-is = rw (e, r-is, o_is, m-is) (refl, (refl, refl))

  pub rounded_opening : {o : Opened} {m' f : List ℕ} → (base ≡ 0 → ⊥) → o ≡ (open_rounded_of file workers pipe base m cells figures).returned →
      m' ≡ (open_rounded_of file workers pipe base m cells figures).memory → f ≡ (open_rounded_of file workers pipe base m cells figures).figures → OpenedAs o m' f
  unfolding opened_with
  rounded_opening n o_is m-is f-is = rw (ne_eqb base 0 n) (o_is, (m-is, f-is))

module _ (sum : ℕ) (r : paper.Run tables.State) (cells f : List ℕ) where
  -- what a choice leads on to
  abbrev after : List Choice → paper.RoundedChosen tables.State → WholeRun
  after rest c = made_from (mixed sum (value_of c.answer)) c.run rest cells c.figures

  made_turn : (c : Choice) (rest : List Choice) →
      made_from sum r (c ∷ rest) cells f ≡ after rest (choose_rounded memory_source r (record { choice = c; cells = cells; figures = f }))
  unfolding made_from checksum answers_rounded follow_rounded handed_on figures_left
  made_turn c rest = refl

  made_end : made_from sum r [] cells f ≡ record { told = sum; memory = r.machine.source.1; figures = f }
  unfolding made_from checksum answers_rounded follow_rounded handed_on figures_left
  made_end = refl

-- the choices of the bytes, some of which are left: the run goes on as that at the start does
module _ (bytes cells : List ℕ) (r₀ : Run) (m₀ f₀ : List ℕ) (sum₀ : ℕ) where
  pub record GoesOn (rest : List ℕ) (r : Run) (m f : List ℕ) (sum : ℕ) : Type 0 where
    pub goes : made_from sum₀ (run_of r₀ m₀) (choices_in bytes) cells f₀ ≡ made_from sum (run_of r m) (choices_in rest) cells f

module _ {bytes cells : List ℕ} {r₀ : Run} {m₀ f₀ : List ℕ} {sum₀ : ℕ} {rest : List ℕ} {r : Run} {m f : List ℕ} {sum : ℕ}
    (inv : GoesOn bytes cells r₀ m₀ f₀ sum₀ rest r m f sum) where
  -- after a choice, its answer added,
  module _ (chunk left : List ℕ) (rest-is : rest ≡ chunk ++ left) (two : length chunk ≡ 2) {w l : ℕ} (w-is : w ≡ get_or chunk 0 0) (l-is : l ≡ get_or chunk 1 0)
      (c : Chosen) (m' f' : List ℕ) (made : chosen_of c m' f' ≡ choose_rounded memory_source (run_of r m) (lent w l cells f)) where
    turn : made_from sum (run_of r m) (choices_in rest) cells f ≡ after sum (run_of r m) cells f (choices_in left) (chosen_of c m' f')
    turn = rw (rest-is, choice_first chunk left two, ← w-is, ← l-is, made) (made_turn sum (run_of r m) cells f _ _)

    pub again : {n : ℕ} → n ≡ mixed sum (value_of (answer_of c.answer)) → GoesOn bytes cells r₀ m₀ f₀ sum₀ left c.run m' f' n
    unfolding chosen_of
    again n-is = record { goes = inv.goes ∙ rw n-is turn }

  -- and after the last
  pub at_end : length rest < 2 → (sum ≡ (made_from sum₀ (run_of r₀ m₀) (choices_in bytes) cells f₀).told) ×
      ((m ≡ (made_from sum₀ (run_of r₀ m₀) (choices_in bytes) cells f₀).memory) × (f ≡ (made_from sum₀ (run_of r₀ m₀) (choices_in bytes) cells f₀).figures))
  unfolding run_of machine_of
  at_end short =
      let ends : made_from sum₀ (run_of r₀ m₀) (choices_in bytes) cells f₀ ≡ record { told = sum; memory = m; figures = f } =
      inv.goes ∙ rw (none_in rest short) (made_end sum (run_of r m) cells f) in
      (sym (ap (λ x. x.told) ends), (sym (ap (λ x. x.memory) ends), sym (ap (λ x. x.figures) ends)))

-- the whole run, by what the opening answered
module _ (o : RoundedOpening) (choices : List Choice) (cells : List ℕ) {s : Opened} {m f : List ℕ}
    (s-is : s ≡ o.returned) (m-is : m ≡ o.memory) (f-is : f ≡ o.figures) where
  from_opening : whole_from s.answer s.run m f choices cells ≡ whole_rounded o choices cells
  from_opening = rw (s-is, m-is, f-is)

  abbrev pub Told : ℕ → List ℕ → List ℕ → Type 0
  Told r m' f' = (r ≡ (whole_rounded o choices cells).told) × ((m' ≡ (whole_rounded o choices cells).memory) × (f' ≡ (whole_rounded o choices cells).figures))

  pub refused_run : {why : Refusal} {n r : ℕ} → s.answer ≡ Err why → n ≡ number_of why → r ≡ n → Told r m f
  unfolding whole_from
  refused_run e n-is r-is = rw (← from_opening, e) (r-is ∙ n-is, (refl, refl))

  pub accepted_run : {r : ℕ} {m' f' : List ℕ} → s.answer ≡ Ok tt → r ≡ (made_from 0 (run_of s.run m) choices cells f).told →
      m' ≡ (made_from 0 (run_of s.run m) choices cells f).memory → f' ≡ (made_from 0 (run_of s.run m) choices cells f).figures → Told r m' f'
  unfolding whole_from
  accepted_run e r-is m-was f-was = rw (← from_opening, e) (r-is, (m-was, f-was))
