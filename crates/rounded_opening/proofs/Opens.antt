-- When an opening with rounding is accepted, and what it leaves then; and what a refused one leaves.
use mathlib.Core.Path.{◌≡◌, refl, sym, ap, ◌∙◌}
use mathlib.Core.Logic.{◌↔◌}
use mathlib.Core.Bool.{true}
use mathlib.Core.List.{List}
use Prim.Native.Nat.{ℕ, ◌≤◌}
use borrow.Author.Tests.{eq-eqb, le-leb}
use lib.ListN.{length, replicate, length-replicate}
use Rattle.vocabulary.specs.declared.refusal.Refusal.{Refusal}
use Rattle.vocabulary.specs.Refusals.{number_of}
use Rattle.rules.specs.Lists.{within}
use Rattle.rules.specs.RunState.{Pipeline}
use Rattle.rules.specs.Choices.{opened}
use Rattle.rules.specs.WholeRuns.{WorkersInRange}
use Rattle.rules.specs.Rounding.{is_base, is_rounding_pipe, lent_fits, OpenedRounding, TurnedDown, Opens, open_rounding}
use Rattle.rules.specs.Rounding as paper
use Rattle.rules.proofs.lists.Tests.{by_test}
use Rattle.rules.proofs.rounding.Steps.{fits_parts}
use Rattle.rules.proofs.rounding.Opening.{opens_with}
use Rattle.fields.specs.Bytes.{Bytes}
use Rattle.plan.specs.Plan.{Plan, Valid, encode}
use Rattle.plan.specs.Reading.{Outcome, accepted, read_of}
use Rattle.plan.proofs.Theorem.{read_exactly}
use Rattle.state.specs.Machines.{machine_of}
use Rattle.loading.specs.Plans.{pipeline_of}
use Rattle.loading.specs.Layout.{laid_out}
use Rattle.loading.specs.Loading.{load_as, load_of}
use Rattle.loading.proofs.loading.LoadCases.{turned_down, laid, loading}
use Rattle.std.specs.Prelude.{Result, Ok, Err}
use Rattle.opening.specs.Opened.{opened_with, opened_by, open_of}
use Rattle.rounding.specs.Runs.{run_of}
use Rattle.rounded_opening.specs.RoundedOpenings.{rounding_with, refusal_of, RoundedOpening, refused_rounded, refuse_rounded, rounded_by, open_rounded_of}
use Rattle.rounded_opening.specs.OpenedRounded.{OpenedRounded}
use Rattle.rounded_opening.proofs.Cases.{refused_load, due_refused, due_rounded}

-- cells that fit do so with cleared figures too
still_fits : (n : ℕ) (cells figures : List ℕ) → lent_fits n cells figures ≡ true → lent_fits n cells (replicate n 0) ≡ true
unfolding lent_fits
still_fits n cells figures h =
    let (many, as_many, small) = fits_parts n cells figures h in
    rw (eq-eqb (length cells) n many, eq-eqb (length {A = ℕ} (replicate n 0)) n (length-replicate {A = ℕ} n 0), small)

-- the refusal of a rounding has its number
pub numbered : (plan : Pipeline) (pipe base : ℕ) (cells figures : List ℕ) (n : ℕ) →
    open_rounding plan pipe base cells figures ≡ TurnedDown n → number_of (refusal_of n) ≡ n
unfolding open_rounding refusal_of
numbered plan pipe base cells figures n e =
    by_test (is_rounding_pipe plan.pipes plan.serial pipe)
    (λ p. by_test (is_base base)
    (λ b. by_test (lent_fits plan.tokens cells figures)
    (λ f. let q : Opens _ _ ≡ TurnedDown n = rw (p, b, f) at e in cc)
    (λ f. let q : TurnedDown 18 ≡ TurnedDown n = rw (p, b, f) at e in let n-is : n ≡ 18 = cc in rw n-is))
    (λ b. let q : TurnedDown 17 ≡ TurnedDown n = rw (p, b) at e in let n-is : n ≡ 17 = cc in rw n-is))
    (λ p. let q : TurnedDown 16 ≡ TurnedDown n = rw p at e in let n-is : n ≡ 16 = cc in rw n-is)

-- a rounding that opens passes the three tests
passed : (plan : Pipeline) (pipe base : ℕ) (cells figures : List ℕ) (r : paper.Rounding) (cleared : List ℕ) →
    open_rounding plan pipe base cells figures ≡ Opens r cleared →
    (is_rounding_pipe plan.pipes plan.serial pipe ≡ true) × (is_base base ≡ true) × (lent_fits plan.tokens cells figures ≡ true)
unfolding open_rounding
passed plan pipe base cells figures r cleared e =
    by_test (is_rounding_pipe plan.pipes plan.serial pipe)
    (λ p. by_test (is_base base)
    (λ b. by_test (lent_fits plan.tokens cells figures)
    (λ f. (p, b, f))
    (λ f. let q : TurnedDown 18 ≡ Opens r cleared = rw (p, b, f) at e in cc))
    (λ b. let q : TurnedDown 17 ≡ Opens r cleared = rw (p, b) at e in cc))
    (λ p. let q : TurnedDown 16 ≡ Opens r cleared = rw p at e in cc)

-- a rounding opens, or it does not
data Comes (x : OpenedRounding) : Type 0 where
  down : (n : ℕ) → x ≡ TurnedDown n → Comes x
  up : (r : paper.Rounding) (cleared : List ℕ) → x ≡ Opens r cleared → Comes x

comes : (x : OpenedRounding) → Comes x
comes (TurnedDown n) = down n refl
comes (Opens r cleared) = up r cleared refl

module _ (file : List ℕ) (workers pipe base : ℕ) (m cells figures : List ℕ) where
  abbrev due : RoundedOpening
  due = open_rounded_of file workers pipe base m cells figures

  -- the run of a plan, with this rounding and these figures
  abbrev opened_rounded : Plan → paper.Rounding → List ℕ → RoundedOpening
  opened_rounded p r cleared = record {
    returned = record { answer = (opened_with p workers m).answer; run = record { state = (opened_with p workers m).state; rounding = rounding_with r } };
    memory = laid_out p.records m;
    figures = cleared;
  }

  -- where 1 to 9 accept the plan, and the rounding opens
  opens_so : (p : Plan) → load_of file workers m ≡ (accepted p, laid_out p.records m) → (r : paper.Rounding) (cleared : List ℕ) →
      open_rounding (pipeline_of p) pipe base cells figures ≡ Opens r cleared → due ≡ opened_rounded p r cleared
  unfolding rounded_by opened_by
  opens_so p is r cleared e =
      due_rounded file workers pipe base m cells figures p (ap (λ (x : Outcome × List ℕ). x.0) is) ∙
      ap (λ (x : OpenedRounding). rounded_by x (open_of file workers m) m figures) e ∙
      ap (λ (x : Outcome × List ℕ). rounded_by (Opens r cleared) (opened_by x.0 workers m, x.1) m figures) is

  accepts : (p : Plan) → read_of file ≡ accepted p → WorkersInRange workers → 32768 ≤ length m →
      is_rounding_pipe (pipeline_of p).pipes (pipeline_of p).serial pipe ≡ true → is_base base ≡ true → lent_fits p.tokens cells figures ≡ true →
      due.returned.answer ≡ Ok tt
  unfolding load_as within open_rounding opened_with
  accepts p read manned enough serial known fits =
      ap (λ (o : RoundedOpening). o.returned.answer)
      (opens_so p (rw (read, le-leb 1 workers manned.some, le-leb workers 32 manned.most, le-leb 32768 (length m) enough))
      (record { pipe = pipe; base = base; sum = 0 }) (replicate p.tokens 0) (rw (serial, known, fits)))

  -- an opening is refused, or opens
  data Case : Type 0 where
    turned : (why : Refusal) → due ≡ refuse_rounded why m figures → Case
    opening : (p : Plan) → read_of file ≡ accepted p → WorkersInRange workers → 32768 ≤ length m → (r : paper.Rounding) (cleared : List ℕ) →
        open_rounding (pipeline_of p) pipe base cells figures ≡ Opens r cleared → due ≡ opened_rounded p r cleared → Case

  case : Case
  unfolding rounded_by
  case = elim (loading (read_of file) workers m) [
    | turned_down why is ↦ turned why (due_refused file workers pipe base m cells figures why (ap (λ (x : Outcome × List ℕ). x.0) is))
    | laid p read manned enough is ↦ elim (comes (open_rounding (pipeline_of p) pipe base cells figures)) [
      | down n e ↦ turned (refusal_of n)
          (due_rounded file workers pipe base m cells figures p (ap (λ (x : Outcome × List ℕ). x.0) is) ∙
          ap (λ (x : OpenedRounding). rounded_by x (open_of file workers m) m figures) e)
      | up r cleared e ↦ opening p read manned enough r cleared e (opens_so p is r cleared e)
    ]
  ]

  abbrev answer_in : RoundedOpening → Result (Unit {0}) Refusal
  answer_in o = o.returned.answer

  -- a refused opening writes nothing, and returns a state of zeros without rounding
  pub refused_rounded_lem : (why : Refusal) → due.returned.answer ≡ Err why → due ≡ refuse_rounded why m figures
  unfolding refused_rounded opened_with
  refused_rounded_lem why e = elim case [
    | turned was is ↦
        let q : Err was ≡ Err why = sym (ap answer_in is) ∙ e in
        let same : was ≡ why = cc in
        is ∙ ap (λ (r : Refusal). refuse_rounded r m figures) same
    | opening p read manned enough r cleared o is ↦
        let q : Ok tt ≡ Err why = sym (ap answer_in is) ∙ e in cc
  ]

  -- what an opening without rounding is refused with comes before 16 to 18
  pub refused_first : (why : Refusal) → (open_of file workers m).0.answer ≡ Err why → due ≡ refuse_rounded why m figures
  refused_first why e = due_refused file workers pipe base m cells figures why (refused_load (load_of file workers m).0 workers m why e)

  module _ (bytes : Bytes file) where
    -- an accepted opening is that of a valid plan, and its run is the rules' at opening
    pub opened_rounded_lem : due.returned.answer ≡ Ok tt → OpenedRounded file workers pipe base m cells figures due
    unfolding refused_rounded opened_with opened machine_of run_of
    opened_rounded_lem e = elim case [
      | turned was is ↦
          let q : Err was ≡ Ok tt = sym (ap answer_in is) ∙ e in cc
      | opening p read manned enough r cleared o is ↦
          let (valid, file_is) = (read_exactly file bytes p).0 read in
          let w = opens_with (pipeline_of p) pipe base cells figures r cleared o in
          let left : due.figures ≡ replicate p.tokens 0 = ap (λ (o : RoundedOpening). o.figures) is ∙ w.cleared_is in
          record {
            plan = p;
            valid = valid;
            file_is = file_is;
            manned = manned;
            enough = enough;
            rounding = r;
            rounding_is = w.rounding_is;
            opens = w.opens;
            run_is = ap (λ (o : RoundedOpening). run_of o.returned.run o.memory) is;
            figures_are = left;
            fits = w.fits;
            fits_cleared = ap (lent_fits p.tokens cells) left ∙ still_fits p.tokens cells figures w.fits;
          }
    ]

    -- an opening is accepted exactly if the file is that of a valid plan, W is 1 to 32, enough numbers are lent, the pipe is a serial one
    -- of the plan, the base is 3 or 5, there are N cells and N figures, and no cell is too large
    pub opens_rounded_exactly : (due.returned.answer ≡ Ok tt) ↔ (
        (p : Plan) × Valid p × (file ≡ encode p) × WorkersInRange workers × (32768 ≤ length m) ×
        (is_rounding_pipe (pipeline_of p).pipes (pipeline_of p).serial pipe ≡ true) × (is_base base ≡ true) × (lent_fits p.tokens cells figures ≡ true)
        )
    unfolding refused_rounded
    opens_rounded_exactly = (
      λ e. elim case [
        | turned was is ↦
            let q : Err was ≡ Ok tt = sym (ap answer_in is) ∙ e in cc
        | opening p read manned enough r cleared o is ↦
            let (valid, file_is) = (read_exactly file bytes p).0 read in
            let (serial, known, fits) = passed (pipeline_of p) pipe base cells figures r cleared o in
            (p, valid, file_is, manned, enough, serial, known, fits)
      ],
      λ (p, valid, file_is, manned, enough, serial, known, fits).
          accepts p ((read_exactly file bytes p).1 (valid, file_is)) manned enough serial known fits,
    )
