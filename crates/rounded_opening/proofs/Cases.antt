-- An opening with rounding, case by case, as the code meets them.
use mathlib.Core.Path.{◌≡◌, refl, sym, ap, ◌∙◌}
use mathlib.Core.Bool.{Bool}
use mathlib.Core.List.{List}
use Prim.Native.Nat.{ℕ}
use lib.Dec.{leb}
use Rattle.vocabulary.specs.declared.refusal.Refusal.{Refusal}
use Rattle.vocabulary.specs.Refusals.{number_of}
use Rattle.rules.specs.Choices.{opened}
use Rattle.rules.specs.Rounding.{is_base, is_rounding_pipe, lent_fits, OpenedRounding, open_rounding}
use Rattle.rules.proofs.lists.Tests.{by_test}
use Rattle.fields.specs.Bytes.{Bytes}
use Rattle.plan.specs.Plan.{Plan, Valid, encode}
use Rattle.plan.specs.Reading.{Outcome, accepted, refused, read_of, reading_of}
use Rattle.plan.proofs.Theorem.{read_exactly}
use Rattle.state.specs.declared.State.{State}
use Rattle.loading.specs.Plans.{pipeline_of}
use Rattle.loading.specs.Loading.{load_of}
use Rattle.loading.proofs.loading.LoadCases.{loaded_read}
use Rattle.std.specs.Prelude.{Result, Ok, Err}
use Rattle.opening.specs.declared.Opened as plain
use Rattle.opening.specs.Opened.{opened_with, opened_by, open_of, refused_with}
use Rattle.rounding.specs.declared.Rounding.{Rounding}
use Rattle.rounding.specs.Openings.{opened_of}
use Rattle.rounding.specs.Openings as checks
use Rattle.rounding.proofs.laws.Openings.{opens_as}
use Rattle.rounded_opening.specs.declared.Opened.{Opened}
use Rattle.rounded_opening.specs.RoundedOpenings.{refusal_of, RoundedOpening, refused_rounded, refuse_rounded, rounded_by}
use Rattle.rounded_opening.specs.RoundedOpenings.{open_rounded_as, open_rounded_of}

-- what an opening's answer tells of the loading
pub refused_load : (o : Outcome) (workers : ℕ) (m : List ℕ) (why : Refusal) → (opened_by o workers m).answer ≡ Err why → o ≡ refused why
unfolding opened_by opened_with refused_with
refused_load (refused r) workers m why e = cc
refused_load (accepted p) workers m why e = cc

pub accepted_load : (o : Outcome) (workers : ℕ) (m : List ℕ) → (opened_by o workers m).answer ≡ Ok tt → (p : Plan) × (o ≡ accepted p)
unfolding opened_by opened_with refused_with
accepted_load (refused r) workers m e = cc
accepted_load (accepted p) workers m e = (p, refl)

-- a rounding that is turned down leaves the figures, and its number tells why
keeps : (pipe base pipes : ℕ) (serial : List Bool) (tokens : ℕ) (cells figures : List ℕ) (why : Refusal) →
    let o = checks.open_of pipe base pipes serial tokens cells figures in
    o.0 ≡ Err why → (o.1 ≡ figures) × (refusal_of (number_of why) ≡ why)
unfolding checks.open_of refusal_of
keeps pipe base pipes serial tokens cells figures why e =
    by_test (leb pipes 16)
    (λ few. by_test (is_rounding_pipe pipes serial pipe)
    (λ p. by_test (is_base base)
    (λ b. by_test (lent_fits tokens cells figures)
    (λ f. let q : Ok _ ≡ Err why = rw (few, p, b, f) at e in cc)
    (λ f. let q : Err Refusal.Lent ≡ Err why = rw (few, p, b, f) at e in let w : why ≡ Refusal.Lent = cc in rw (w, few, p, b, f) (refl, refl)))
    (λ b. let q : Err Refusal.Base ≡ Err why = rw (few, p, b) at e in let w : why ≡ Refusal.Base = cc in rw (w, few, p, b) (refl, refl)))
    (λ p. let q : Err Refusal.RoundingPipe ≡ Err why = rw (few, p) at e in let w : why ≡ Refusal.RoundingPipe = cc in rw (w, few, p) (refl, refl)))
    (λ many. let q : Err Refusal.RoundingPipe ≡ Err why = rw many at e in let w : why ≡ Refusal.RoundingPipe = cc in rw (w, many) (refl, refl))

module _ (file : List ℕ) (workers pipe base : ℕ) (m cells figures : List ℕ) where
  abbrev due : RoundedOpening
  due = open_rounded_of file workers pipe base m cells figures

  -- what is returned and left is what the opening must give
  abbrev pub Gives : Opened → List ℕ → List ℕ → Type 0
  Gives r m' left = (r ≡ due.returned) × ((m' ≡ due.memory) × (left ≡ due.figures))

  by_whole : {o : RoundedOpening} → due ≡ o → {r : Opened} {m' left : List ℕ} →
      r ≡ o.returned → m' ≡ o.memory → left ≡ o.figures → Gives r m' left
  by_whole is r-is m-is left_is = (
    r-is ∙ sym (ap (λ (o : RoundedOpening). o.returned) is),
    (m-is ∙ sym (ap (λ (o : RoundedOpening). o.memory) is), left_is ∙ sym (ap (λ (o : RoundedOpening). o.figures) is)),
  )

  -- 1 to 9
  pub due_refused : (why : Refusal) → (load_of file workers m).0 ≡ refused why → due ≡ refuse_rounded why m figures
  unfolding open_rounded_as
  due_refused why is = ap (λ (o : Outcome). open_rounded_as o (open_of file workers m) pipe base m cells figures) is

  -- else as the rounding goes
  pub due_rounded : (p : Plan) → (load_of file workers m).0 ≡ accepted p →
      due ≡ rounded_by (open_rounding (pipeline_of p) pipe base cells figures) (open_of file workers m) m figures
  unfolding open_rounded_as
  due_rounded p is = ap (λ (o : Outcome). open_rounded_as o (open_of file workers m) pipe base m cells figures) is

  -- a plan that is loaded is valid
  pub plan_valid : Bytes file → (p : Plan) → (load_of file workers m).0 ≡ accepted p → Valid p × (file ≡ encode p)
  plan_valid bytes p is =
      (read_exactly file bytes p).0 (sym (loaded_read (read_of file) workers m _ (ap reading_of is)) ∙ is)

  -- where an opening without rounding returns this
  module _ {first : plain.Opened} (first_is : first ≡ (open_of file workers m).0) where
    pub refuses : {why : Refusal} → first.answer ≡ Err why → {r : Opened} → r ≡ refused_rounded why → Gives r m figures
    refuses {why} e r-is =
        let is = refused_load (load_of file workers m).0 workers m why (ap (λ (o : plain.Opened). o.answer) (sym first_is) ∙ e) in
        by_whole (due_refused why is) r-is refl refl

    -- and is accepted, and the checks for rounding return and leave this
    module _ (bytes : Bytes file) (yes : first.answer ≡ Ok tt) {o : Result Rounding Refusal} {left : List ℕ}
        (o_is : o ≡ (checks.open_of pipe base first.state.pipes first.state.serial first.state.tables.tokens cells figures).0)
        (left_is : left ≡ (checks.open_of pipe base first.state.pipes first.state.serial first.state.tables.tokens cells figures).1) where
      loaded : (p : Plan) × ((load_of file workers m).0 ≡ accepted p)
      loaded = accepted_load (load_of file workers m).0 workers m (ap (λ (o : plain.Opened). o.answer) (sym first_is) ∙ yes)

      abbrev checks_of : State → Result Rounding Refusal × List ℕ
      checks_of s = checks.open_of pipe base s.pipes s.serial s.tables.tokens cells figures

      state_is : first.state ≡ (opened_with loaded.0 workers m).state
      unfolding opened_by
      state_is = ap (λ (o : plain.Opened). o.state) (first_is ∙ ap (λ (o : Outcome). opened_by o workers m) loaded.1)

      returned : (o, left) ≡ checks_of first.state
      returned = λ i. (o_is i, left_is i)

      -- it is what the rules say of the plan
      opens_so : opened_of o left ≡ open_rounding (pipeline_of loaded.0) pipe base cells figures
      unfolding opened_with opened
      opens_so =
          ap (λ (x : Result Rounding Refusal × List ℕ). opened_of x.0 x.1) (returned ∙ ap checks_of state_is) ∙
          opens_as (pipeline_of loaded.0) pipe base cells figures (plan_valid bytes loaded.0 loaded.1).0.pipes

      due_so : due ≡ rounded_by (opened_of o left) (open_of file workers m) m figures
      due_so =
          due_rounded loaded.0 loaded.1 ∙
          ap (λ (x : OpenedRounding). rounded_by x (open_of file workers m) m figures) (sym opens_so)

      -- 16, 17, 18
      pub turned : {why : Refusal} → o ≡ Err why → {r : Opened} → r ≡ refused_rounded why → Gives r m left
      unfolding rounded_by
      turned {why} e r-is =
          let k = keeps pipe base first.state.pipes first.state.serial first.state.tables.tokens cells figures why (sym o_is ∙ e) in
          by_whole (due_so ∙ ap (λ x. rounded_by (opened_of x left) (open_of file workers m) m figures) e) (r-is ∙ ap refused_rounded (sym k.1)) refl (left_is ∙ k.0)

      -- else the run
      pub accepts : (r : Rounding) → o ≡ Ok r → {now : plain.Opened} → now ≡ (open_of file workers m).0 →
          {m' : List ℕ} → m' ≡ (open_of file workers m).1 →
          Gives (record { answer = now.answer; run = record { state = now.state; rounding = r } }) m' left
      unfolding rounded_by
      accepts r e now-is m-is =
          by_whole (due_so ∙ ap (λ (x : Result Rounding Refusal). rounded_by (opened_of x left) (open_of file workers m) m figures) e)
          (ap {B = Opened} (λ (o : plain.Opened). record { answer = o.answer; run = record { state = o.state; rounding = r } }) now-is)
          m-is refl
