-- Opening, case by case, as the code meets them.
use Rattle.std.specs.Prelude.{Result, Ok, Err, IfOk}
use mathlib.Core.Path.{◌≡◌, sym, ap, ◌∙◌}
use mathlib.Core.Bool.{Bool}
use mathlib.Core.List.{List, map}
use Prim.Native.Nat.{ℕ}
use lib.ListN.{take, drop}
use Rattle.rules.specs.Choices.{opened, tabled}
use Rattle.vocabulary.specs.declared.refusal.Refusal.{Refusal}
use Rattle.vocabulary.specs.PipeKinds.{kind_of}
use Rattle.plan.specs.Reading.{read_of, reading_of}
use Rattle.plan.specs.declared.trailer.Header.{Header}
use Rattle.loading.specs.Plans.{serial_of}
use Rattle.loading.specs.Loading.{load_of}
use Rattle.loading.proofs.loading.PlanRead.{PlanRead, refused_read}
use Rattle.loading.proofs.loading.LoadCases.{loaded_read, was_read}
use Rattle.state.specs.declared.State.{State}
use Rattle.opening.specs.declared.Opened.{Opened}
use Rattle.opening.specs.Opened.{opened_counters, fresh_state, refused_with, opened_with, opened_by, open_of}

-- the run of a plan that was read
module _ (file : List ℕ) (workers : ℕ) {h : Header} (read : PlanRead file h) where
  pub begins : {serial : List Bool} {counters : List ℕ} {state : State} →
      serial ≡ serial_of (map kind_of (take h.pipes (drop h.start file))) →
      counters ≡ opened_counters serial h.pipes h.lines → state ≡ fresh_state h.pipes h.lines workers serial counters h.tokens →
      (m : List ℕ) → record { answer = Ok tt; state = state } ≡ opened_by (read_of file) workers m
  unfolding opened_by opened_with opened tabled
  begins s_is c_is state_is m =
      rw read.reads
      (ap {B = Opened} (λ (s : State). record { answer = Ok tt; state = s }) (state_is ∙ rw (c_is, s_is, read.kinds, ← read.header)))

-- a loading that is refused, and one that is not
module _ (file : List ℕ) (workers : ℕ) (m : List ℕ) where
  pub refuses : {r : Opened} {why : Refusal} → Err why ≡ reading_of (load_of file workers m).0 → r ≡ refused_with why → r ≡ (open_of file workers m).0
  unfolding opened_by
  refuses {why = why} told r_is = rw (refused_read (load_of file workers m).0 why (sym told)) r_is

  pub opens : {r : Opened} {h : Header} → Ok h ≡ reading_of (load_of file workers m).0 → r ≡ opened_by (read_of file) workers m → r ≡ (open_of file workers m).0
  opens {h = h} told r_is = rw (loaded_read (read_of file) workers m h (sym told)) r_is

  -- a plan that is loaded was read
  pub loaded_plan : (loaded : Result Header Refusal) → loaded ≡ reading_of (load_of file workers m).0 → IfOk loaded (λ h. reading_of (read_of file) ≡ Ok h)
  loaded_plan (Ok h) told = was_read file workers m told
  loaded_plan (Err why) told = tt
