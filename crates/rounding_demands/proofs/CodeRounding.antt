-- Every session of the code with rounding is as the rounding paper says, and a refused opening changes nothing.
use Rattle.std.proofs.Common.{Result, Err}
use mathlib.Core.Path.{◌≡◌, refl, sym, ap, subst, ◌∙◌}
use mathlib.Core.Bool.{true}
use mathlib.Core.List.{List, ◌∷◌, map}
use Prim.Native.Nat.{ℕ, ◌≤◌}
use lib.ListN.{length}
use Rattle.vocabulary.specs.declared.event.Event.{Event}
use Rattle.vocabulary.specs.declared.refusal.Refusal.{Refusal}
use Rattle.rules.specs.Lists.{within}
use Rattle.rules.specs.RunState.{Machine}
use Rattle.rules.specs.Ranges.{sound, numbers_sound}
use Rattle.rules.specs.Choices as rules
use Rattle.rules.specs.Choices.{Choice, Refused, choose, ended, opened}
use Rattle.rules.specs.Answers.{answer_of}
use Rattle.rules.specs.WholeRuns.{WorkersInRange}
use Rattle.rules.specs.MoreWorkers.{without_refusals}
use Rattle.rules.specs.Rounding as paper
use Rattle.rules.specs.Rounding.{no_rounding, Lending, RoundedChosen, choose_rounded, answers_rounded, follow_rounded, rounding_sound, rounded_with, refuse_with}
use Rattle.rules.specs.RoundedRuns.{AtOpening, without, opened_run, rounded_events, rounded_end, rounded_choices, RoundedRun}
use Rattle.fields.specs.Bytes.{Bytes}
use Rattle.plan.specs.Plan.{Plan, Valid, encode}
use Rattle.plan.proofs.Theorem.{one_plan}
use Rattle.tables.specs.State as tables
use Rattle.tables.specs.Calls.{memory_source}
use Rattle.loading.specs.Plans.{pipeline_of}
use Rattle.state.specs.Machines.{machine_of}
use Rattle.state.specs.Ending.{ended_of}
use Rattle.state.proofs.in_range.SoundLaws.{ended_is as ended_as_rules}
use Rattle.opening.specs.Opened.{state_of, open_of, refused_with}
use Rattle.rounding.specs.declared.run.Run.{Run}
use Rattle.rounding.specs.Roundings.{rounding_of}
use Rattle.rounding.specs.Runs.{run_of}
use Rattle.rounded_opening.specs.declared.Opened.{Opened}
use Rattle.rounded_opening.specs.RoundedOpenings.{RoundedOpening, open_rounded_of, refused_rounded}
use Rattle.rounded_opening.proofs.Opens.{opened_rounded_lem, refused_rounded_lem}
use Rattle.rounded.specs.declared.Chosen.{Chosen}
use Rattle.rounded.specs.Runs.{chosen_of}
use Rattle.demands.specs.Demands.{Shows, begun, told, left, end_state, order}
use Rattle.demands.specs.CodeRuns.{Session, SameEnd}
use Rattle.demands.specs.CodeRuns as base
use Rattle.demands.proofs.Demands.{demands}
use Rattle.demands.proofs.Opens.{opened_run_lem}
use Rattle.demands.proofs.Unchanged.{same_state}
use Rattle.demands.proofs.CodeRuns.{left_sound, run_of_lem}
use Rattle.rounding_demands.specs.CodeRounding.{OpenRoundedCall, RoundedCalls, no_call, call, RoundedOpens, plainly, rounding}
use Rattle.rounding_demands.specs.CodeRounding.{RoundedSession, events_of, accepted_in, CodeRounded, RefusedRounding}
use Rattle.rounding_demands.proofs.RoundedPlans.{rounded_demands}
use Rattle.rounding_demands.proofs.OneRun.{same_return}

-- the calls' answers and the run that they leave are those of the rules' lists of choices
pub calls_told : {r t : Run} {m end : List ℕ} {ls : List Lending} {told : List (Result Event Refusal)} → RoundedCalls r m ls told t end →
    (map answer_of told ≡ answers_rounded memory_source (run_of r m) ls) × (run_of t end ≡ follow_rounded memory_source (run_of r m) ls)
unfolding answers_rounded follow_rounded chosen_of
calls_told no_call = (refl, refl)
calls_told (call {told = a} figures e rest) =
    let (told_is, left_is) = calls_told rest in
    rw (← ap (λ (c : RoundedChosen tables.State). c.answer) e, ← ap (λ (c : RoundedChosen tables.State). c.run) e)
    (ap (λ (l : List rules.Answer). answer_of a ∷ l) told_is, left_is)

-- an accepted opening, without rounding or with it
pub record OpenedHere (file : List ℕ) (workers : ℕ) (lent : List ℕ) (r : Run) (m : List ℕ) : Type 0 where
  pub plan : Plan
  pub valid : Valid plan
  pub file_is : file ≡ encode plan
  pub manned : WorkersInRange workers
  pub enough : 32768 ≤ length lent
  pub opens : AtOpening (pipeline_of plan) (rounding_of r.rounding)
  pub run_is : run_of r m ≡ opened_run memory_source (pipeline_of plan) workers (begun plan lent) (rounding_of r.rounding)

module _ {file : List ℕ} (bytes : Bytes file) {workers : ℕ} {lent : List ℕ} where
  pub opened_here : {r : Run} {m : List ℕ} → RoundedOpens file workers lent r m → OpenedHere file workers lent r m
  unfolding run_of
  opened_here {r} {m} (plainly o (o_is, m-is) accepts r-is) =
      let h = opened_run_lem file bytes workers lent (ap (λ x. x.answer) (sym o_is) ∙ accepts) in
      let machine_is : machine_of o.state m ≡ opened (pipeline_of h.plan) workers (begun h.plan lent) =
      ap (λ x. machine_of x.state m) o_is ∙ ap (machine_of (open_of file workers lent).0.state) m-is ∙ h.machine in
      record {
        plan = h.plan;
        valid = h.valid;
        file_is = h.file_is;
        manned = h.manned;
        enough = h.enough;
        opens = rw r-is without;
        run_is = rw r-is (ap (λ (x : Machine tables.State). record { machine = x; rounding = no_rounding }) machine_is);
      }
  opened_here {r} {m} (rounding pipe base cells figures left o (o_is, m-is, f-is) accepts r-is) =
      let h = opened_rounded_lem file workers pipe base lent cells figures bytes (ap (λ (x : Opened). x.answer) (sym o_is) ∙ accepts) in
      let run_is : run_of o.run m ≡ opened_run memory_source (pipeline_of h.plan) workers (begun h.plan lent) h.rounding =
      ap (λ (x : Opened). run_of x.run m) o_is ∙ ap (run_of (open_rounded_of file workers pipe base lent cells figures).returned.run) m-is ∙ h.run_is in
      let same : rounding_of o.run.rounding ≡ h.rounding = ap (λ (x : paper.Run tables.State). x.rounding) run_is in
      record {
        plan = h.plan;
        valid = h.valid;
        file_is = h.file_is;
        manned = h.manned;
        enough = h.enough;
        opens = rw (r-is, same) h.opens;
        run_is = rw r-is (run_is ∙ ap (λ (q : paper.Rounding). opened_run memory_source (pipeline_of h.plan) workers (begun h.plan lent) q) (sym same));
      }

  module _ {lendings : List Lending} (s : RoundedSession file workers lent lendings) where
    pub here : OpenedHere file workers lent s.first s.begun
    here = opened_here s.opens

    abbrev p : Plan
    p = here.plan

    abbrev r : paper.Rounding
    r = rounding_of s.first.rounding

    pub told_here : events_of s ≡ rounded_events memory_source (pipeline_of p) workers (begun p lent) r lendings
    told_here = (calls_told s.calls).0 ∙ ap (λ x. answers_rounded memory_source x lendings) here.run_is

    pub left_here : run_of s.run s.memory ≡ rounded_end memory_source (pipeline_of p) workers (begun p lent) r lendings
    left_here = (calls_told s.calls).1 ∙ ap (λ x. follow_rounded memory_source x lendings) here.run_is

    pub rounded_here : (z : tables.State) × RoundedRun memory_source (pipeline_of p) workers (begun p lent) r lendings (order p) z
    rounded_here = (rounded_demands p here.valid).runs lent workers here.manned r here.opens lendings

    -- the choices that were accepted, as the rules have them
    abbrev chosen : List Choice
    chosen = rounded_choices memory_source (pipeline_of p) workers (begun p lent) r lendings

    pub events_here : without_refusals (events_of s) ≡ told p lent workers chosen
    events_here = ap without_refusals told_here ∙ rounded_here.1.events_are

    pub machine_here : machine_of s.run.state s.memory ≡ left p lent workers chosen
    unfolding run_of
    machine_here = ap (λ (x : paper.Run tables.State). x.machine) left_here ∙ rounded_here.1.machine_is

    ended_here : ended_of s.run.state ≡ ended (machine_of s.run.state s.memory)
    ended_here = ended_as_rules s.run.state s.memory
        (ap (sound memory_source) machine_here ∙ left_sound (demands p here.valid) lent here.enough here.manned chosen)

    accepted_is : accepted_in s ≡ chosen
    accepted_is = rw told_here

    based : (t : Session file workers lent chosen) →
        (base.events_of t ≡ without_refusals (events_of s)) × (t.state ≡ s.run.state) × (t.memory ≡ s.memory)
    based t =
        let run = run_of_lem bytes t p here.valid here.file_is in
        let (states, memories) = same_state t.state s.run.state t.memory s.memory (run.left_is ∙ sym machine_here) in
        (run.events_are ∙ sym events_here, states, memories)

    showing : Shows p workers lent chosen (without_refusals (events_of s)) (machine_of s.run.state s.memory) (ended_of s.run.state)
    showing = rw (ended_here, events_here, machine_here) ((demands p here.valid).runs lent here.enough workers here.manned chosen)

-- two sessions of one file that have ended
module _ {file : List ℕ} (bytes : Bytes file) {w v : ℕ} {m k : List ℕ} {ls ks : List Lending}
    (s : RoundedSession file w m ls) (t : RoundedSession file v k ks) where
  -- the plan of both is one
  pub one_here : (here bytes t).plan ≡ (here bytes s).plan
  one_here = one_plan (here bytes t).plan (here bytes s).plan (here bytes t).valid (here bytes s).valid (sym (here bytes t).file_is ∙ (here bytes s).file_is)

  ends_there : ended_of t.run.state ≡ true → ended (left (here bytes t).plan k v (chosen bytes t)) ≡ true
  ends_there e = ap ended (sym (machine_here bytes t)) ∙ sym (ended_here bytes t) ∙ e

  one_end : ended_of s.run.state ≡ true → ended_of t.run.state ≡ true → SameEnd s.run.state s.memory t.run.state t.memory
  unfolding machine_of
  one_end e f =
      let d = demands (here bytes s).plan (here bytes s).valid in
      let there : (q : Plan) → q ≡ (here bytes s).plan → (ds : List Choice) → ended (left q k v ds) ≡ true →
      end_state (left (here bytes s).plan m w (chosen bytes s)) ≡ end_state (left q k v ds) =
      λ q q-is ds g. subst (λ x. ended (left x k v ds) ≡ true → end_state (left (here bytes s).plan m w (chosen bytes s)) ≡ end_state (left x k v ds)) (sym q-is)
      (λ h. d.same_end m k w v (here bytes s).manned (here bytes t).manned (chosen bytes s) ds
      (ap ended (sym (machine_here bytes s)) ∙ sym (ended_here bytes s) ∙ e) h) g in
      let same : end_state (machine_of s.run.state s.memory) ≡ end_state (machine_of t.run.state t.memory) =
      ap end_state (machine_here bytes s) ∙ there (here bytes t).plan one_here (chosen bytes t) (ends_there f) ∙ ap end_state (sym (machine_here bytes t)) in
      record { states = ap state_of same; memories = ap (λ (a : Machine tables.State). a.source.1) same }

-- every session is as the rounding paper says
pub code_rounded : {file : List ℕ} (bytes : Bytes file) {workers : ℕ} {lent : List ℕ} {lendings : List Lending}
    (s : RoundedSession file workers lent lendings) → CodeRounded s
code_rounded {file} bytes {workers} {lent} s =
    let h = here bytes s in
    record {
      plan = h.plan;
      valid = h.valid;
      file_is = h.file_is;
      manned = h.manned;
      enough = h.enough;
      rounding = rounding_of s.first.rounding;
      rounding_is = refl;
      opens = h.opens;
      told_is = told_here bytes s;
      left_is = left_here bytes s;
      closed = (rounded_here bytes s).0;
      run_is = (rounded_here bytes s).1;
      ended_is = ended_here bytes s;
      as_base = subst
          (λ (cs : List Choice). (t : Session file workers lent cs) →
          (base.events_of t ≡ without_refusals (events_of s)) × (t.state ≡ s.run.state) × (t.memory ≡ s.memory))
          (sym (accepted_is bytes s)) (based bytes s);
      shows = rw (accepted_is bytes s) (showing bytes s);
      same_end = λ t. one_end bytes s t;
    }

-- a choice on a state of zeros is refused with 14
zeros_refused : (why : Refusal) (m : List ℕ) (a : Lending) →
    choose_rounded memory_source (run_of (refused_rounded why).run m) a ≡ refuse_with (run_of (refused_rounded why).run m) a (Refused 14)
unfolding choose_rounded rounded_with rounding_sound choose sound numbers_sound within machine_of run_of refused_rounded refused_with
zeros_refused why m a = refl

-- a refused opening writes nothing, figures neither, and a choice on what it returns gets 14
pub refused_rounding : (file : List ℕ) (workers pipe base : ℕ) (m cells figures : List ℕ) (o : Opened) (m' figures' : List ℕ) (why : Refusal) →
    OpenRoundedCall file workers pipe base m cells figures o m' figures' → o.answer ≡ Err why → RefusedRounding why m figures o m' figures'
unfolding chosen_of answer_of
refused_rounding file workers pipe base m cells figures o m' figures' why (o_is, m-is, f-is) e =
    let all : open_rounded_of file workers pipe base m cells figures ≡ record { returned = refused_rounded why; memory = m; figures = figures } =
    refused_rounded_lem file workers pipe base m cells figures why (ap (λ (x : Opened). x.answer) (sym o_is) ∙ e) in
    let zeros : o ≡ refused_rounded why = o_is ∙ ap (λ (x : RoundedOpening). x.returned) all in
    record {
      zeros = zeros;
      kept = m-is ∙ ap (λ (x : RoundedOpening). x.memory) all;
      figures_kept = f-is ∙ ap (λ (x : RoundedOpening). x.figures) all;
      spoiled = λ mem a c mem' left called.
          let told : chosen_of c mem' left ≡ chosen_of (record { answer = Err Refusal.Spoiled; run = o.run }) mem a.figures =
          called ∙ subst (λ (x : Opened). choose_rounded memory_source (run_of x.run mem) a ≡ refuse_with (run_of x.run mem) a (Refused 14)) (sym zeros) (zeros_refused why mem a) in
          let (c-is, memories, lefts) = same_return c (record { answer = Err Refusal.Spoiled; run = o.run }) mem' mem left a.figures told in
          (ap (λ (x : Chosen). answer_of x.answer) c-is, ap (λ (x : Chosen). x.run) c-is, memories, lefts);
    }
