-- When an opening is accepted, and what it leaves then.
use Rattle.std.proofs.Common.{Ok, Err}
use mathlib.Core.Path.{◌≡◌, refl, ap}
use mathlib.Core.Logic.{◌↔◌}
use mathlib.Core.List.{List}
use Prim.Native.Nat.{ℕ, ◌≤◌}
use native.Mathlib.Omega.{arith}
use borrow.Author.Tests.{le-leb}
use lib.ListN.{length}
use Rattle.rules.specs.Lists.{within}
use Rattle.rules.specs.Choices.{opened}
use Rattle.rules.specs.WholeRuns.{WorkersInRange}
use Rattle.vocabulary.specs.declared.refusal.Refusal.{Refusal}
use Rattle.fields.specs.Bytes.{Bytes}
use Rattle.plan.specs.Plan.{Plan, Valid, encode}
use Rattle.plan.specs.Reading.{Outcome, accepted, read_of}
use Rattle.plan.proofs.Theorem.{read_exactly}
use Rattle.loading.specs.Layout.{laid_out}
use Rattle.loading.specs.Loading.{load_as}
use Rattle.loading.proofs.loading.LoadCases.{turned_down, laid, loading}
use Rattle.demands.proofs.Demands.{demands}
use Rattle.opening.specs.declared.Opened.{Opened}
use Rattle.state.specs.Machines.{machine_of}
use Rattle.opening.specs.Opened.{opened_with, refused_with, opened_by, open_of}
use Rattle.demands.specs.OpenedRun.{OpenedRun}

-- what an accepting outcome tells
accepting : (o : Outcome) (workers : ℕ) (m : List ℕ) → (opened_by (load_as o workers m).0 workers m).answer ≡ Ok tt →
    (p : Plan) × (o ≡ accepted p) × WorkersInRange workers × (32768 ≤ length m)
unfolding opened_by refused_with
accepting o workers m e = elim (loading o workers m) [
  | turned_down why is ↦ let q = rw is at e in let z : ◌≡◌ {A = ℕ} 0 1 = cc in absurd (omega arith)
  | laid p o_is manned enough is ↦ (p, o_is, manned, enough)
]

-- what a refusing one tells
pub refusing : (o : Outcome) (workers : ℕ) (m : List ℕ) (why : Refusal) → (opened_by (load_as o workers m).0 workers m).answer ≡ Err why →
    (opened_by (load_as o workers m).0 workers m ≡ refused_with why) × ((load_as o workers m).1 ≡ m)
unfolding opened_by opened_with refused_with
refusing o workers m why e = elim (loading o workers m) [
  | turned_down r is ↦ let q = rw is at e in rw is (λ i. record { answer = q i; state = (refused_with why).state }, refl)
  | laid p o_is manned enough is ↦ let q = rw is at e in let z : ◌≡◌ {A = ℕ} 0 1 = cc in absurd (omega arith)
]

-- what opening gives where nothing refuses it
gives : (file : List ℕ) (workers : ℕ) (m : List ℕ) (p : Plan) → read_of file ≡ accepted p → WorkersInRange workers → 32768 ≤ length m →
    open_of file workers m ≡ (opened_with p workers m, laid_out p.records m)
unfolding load_as opened_by within
gives file workers m p e manned enough =
    rw (e, le-leb 1 workers manned.some, le-leb workers 32 manned.most, le-leb 32768 (length m) enough)

module _ (file : List ℕ) (bytes : Bytes file) (workers : ℕ) (m : List ℕ) where
  -- an accepted opening is that of a valid plan, and every run from it is as the demands say
  pub opened_run_lem : (open_of file workers m).0.answer ≡ Ok tt → OpenedRun file workers m
  unfolding opened_with opened machine_of
  opened_run_lem e =
      let (p, read, manned, enough) = accepting (read_of file) workers m e in
      let (valid, file_is) = (read_exactly file bytes p).0 read in
      record {
        plan = p;
        valid = valid;
        file_is = file_is;
        manned = manned;
        enough = enough;
        machine = ap (λ (x : Opened × List ℕ). machine_of x.0.state x.1) (gives file workers m p read manned enough);
        demands = demands p valid;
      }

  -- an opening is accepted exactly if the file is that of a valid plan, W is 1 to 32, and enough numbers are lent
  pub opens_exactly : ((open_of file workers m).0.answer ≡ Ok tt) ↔
      ((p : Plan) × Valid p × (file ≡ encode p) × WorkersInRange workers × (32768 ≤ length m))
  unfolding opened_with
  opens_exactly = (
    λ e. let r = opened_run_lem e in (r.plan, r.valid, r.file_is, r.manned, r.enough),
    λ (p, valid, file_is, manned, enough). ap (λ (x : Opened × List ℕ). x.0.answer)
        (gives file workers m p ((read_exactly file bytes p).1 (valid, file_is)) manned enough),
  )
