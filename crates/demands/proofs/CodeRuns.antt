-- Every session of the code is as the demands say, and a refused opening changes nothing.
use Rattle.std.proofs.Common.{Result, Err}
use mathlib.Core.Path.{◌≡◌, refl, sym, ap, subst, ◌∙◌}
use mathlib.Core.Bool.{true}
use mathlib.Core.List.{List, [], ◌∷◌, ◌++◌, map}
use Prim.Native.Nat.{ℕ, ◌≤◌}
use lib.ListN.{length}
use Rattle.rules.specs.Lists.{Every, within}
use Rattle.rules.specs.RunState.{Machine}
use Rattle.rules.specs.Choices as rules
use Rattle.rules.specs.Choices.{Choice, Refused, choose, choose_by, answers, follow, ended, opened}
use Rattle.rules.specs.Ranges.{sound, numbers_sound}
use Rattle.rules.specs.WholeRuns.{WorkersInRange}
use Rattle.rules.specs.Answers.{answer_of}
use Rattle.vocabulary.specs.declared.event.Event.{Event}
use Rattle.vocabulary.specs.declared.refusal.Refusal.{Refusal}
use Rattle.rules.proofs.choices.Accepting.{unspoiled_sound}
use Rattle.fields.specs.Bytes.{Bytes}
use Rattle.plan.specs.Plan.{Plan, Valid, encode}
use Rattle.plan.specs.Reading.{read_of}
use Rattle.plan.proofs.Theorem.{one_plan}
use Rattle.tables.specs.State as tables
use Rattle.tables.specs.Calls.{memory_source}
use Rattle.loading.specs.Plans.{pipeline_of}
use Rattle.demands.specs.Demands.{begun, told, left, end_state, Demands}
use Rattle.state.specs.Machines.{machine_of}
use Rattle.engine.specs.Machines.{chosen_of}
use Rattle.state.specs.Ending.{ended_of}
use Rattle.opening.specs.Opened.{state_of, open_of, refused_with}
use Rattle.demands.specs.OpenedRun.{OpenedRun}
use Rattle.demands.specs.CodeRuns.{OpenCall, Calls, no_call, call, Session, events_of, SameEnd, CodeDemands, RefusedOpening}
use Rattle.state.specs.declared.State.{State}
use Rattle.opening.specs.declared.Opened.{Opened}
use Rattle.demands.proofs.Opens.{refusing, opened_run_lem}
use Rattle.state.proofs.in_range.SoundLaws.{ended_is as ended_as_rules}
use Rattle.demands.proofs.Unchanged.{refused_unchanged}

-- the calls' answers and the machine that they leave are those of the rules' lists of choices
pub calls_told : {s t : State} {m end : List ℕ} {cs : List Choice} {told : List (Result Event Refusal)} → Calls s m cs told t end →
    (map answer_of told ≡ answers memory_source (machine_of s m) cs) × (machine_of t end ≡ follow memory_source (machine_of s m) cs)
unfolding answers follow chosen_of
calls_told no_call = (refl, refl)
calls_told (call {a = a} e rest) =
    let (told_is, left_is) = calls_told rest in
    rw (← ap (λ c. c.answer) e, ← ap (λ c. c.machine) e) (ap (λ (l : List rules.Answer). answer_of a ∷ l) told_is, left_is)

-- where no answer is 14, neither is that of the last choice
last_unspoiled : (a : Machine tables.State) (cs : List Choice) (c : Choice) →
    Every (λ x. x ≡ Refused 14 → ⊥) (answers memory_source a (cs ++ (c ∷ []))) → (choose_by memory_source (follow memory_source a cs) c).answer ≡ Refused 14 → ⊥
unfolding answers follow
last_unspoiled a [] c each = each.0
last_unspoiled a (d ∷ cs) c each = last_unspoiled (choose_by memory_source a d).machine cs c each.1

module _ {p : Plan} (demands : Demands p) (m : List ℕ) (enough : 32768 ≤ length m) {workers : ℕ} (manned : WorkersInRange workers) (cs : List Choice) where
  -- the numbers that a run leaves are in range: no choice after it gets 14
  pub left_sound : sound memory_source (left p m workers cs) ≡ true
  left_sound =
      let c : Choice = record { worker = 0; line = 0 } in
      unspoiled_sound memory_source (left p m workers cs) 0 0 (last_unspoiled _ cs c (demands.runs m enough workers manned (cs ++ (c ∷ []))).never_spoiled)

-- a session is one of this plan's runs
pub record RunOf (p : Plan) {file : List ℕ} {workers : ℕ} {m : List ℕ} {cs : List Choice} (s : Session file workers m cs) : Type 0 where
  pub events_are : events_of s ≡ told p m workers cs
  pub left_is : machine_of s.state s.memory ≡ left p m workers cs
  pub ended_is : ended_of s.state ≡ ended (left p m workers cs)

module _ {file : List ℕ} (bytes : Bytes file) where
  module _ {workers : ℕ} {m : List ℕ} {cs : List Choice} (s : Session file workers m cs) where
    -- its opening
    pub here : OpenedRun file workers m
    here = opened_run_lem file bytes workers m (ap (λ o. o.answer) (sym s.opens.0) ∙ s.accepts)

    begins : machine_of s.opening.state s.begun ≡ opened (pipeline_of here.plan) workers (begun here.plan m)
    begins =
        ap (λ o. machine_of o.state s.begun) s.opens.0
        ∙ ap (machine_of (open_of file workers m).0.state) s.opens.1
        ∙ here.machine

    pub run_here : RunOf here.plan s
    run_here =
        let (told_is, left_is) = calls_told s.calls in
        let end = left_is ∙ ap (λ a. follow memory_source a cs) begins in
        let in_range = ap (sound memory_source) end ∙ left_sound here.demands m here.enough here.manned cs in
        record {
          events_are = told_is ∙ ap (λ a. answers memory_source a cs) begins;
          left_is = end;
          ended_is = ended_as_rules s.state s.memory in_range ∙ ap ended end;
        }

    -- it is a run of every valid plan with this file
    pub run_of_lem : (p : Plan) → Valid p → file ≡ encode p → RunOf p s
    run_of_lem p valid file_is = subst (λ q. RunOf q s) (one_plan here.plan p here.valid valid (sym here.file_is ∙ file_is)) run_here

  -- what two sessions left, by what runs of their plan leave
  module _ {w v : ℕ} {m k : List ℕ} {cs ds : List Choice} (s : Session file w m cs) (t : Session file v k ds) where
    abbrev p : Plan
    p = (here s).plan

    -- the second session as a run of the first one's plan
    pub run_there : RunOf p t
    run_there = run_of_lem t p (here s).valid (here s).file_is

    pub same_left : end_state (left p m w cs) ≡ end_state (left p k v ds) → SameEnd s.state s.memory t.state t.memory
    unfolding machine_of
    same_left e =
        let same : end_state (machine_of s.state s.memory) ≡ end_state (machine_of t.state t.memory) =
        ap end_state (run_here s).left_is ∙ e ∙ ap end_state (sym run_there.left_is) in
        record { states = ap state_of same; memories = ap (λ a. a.source.1) same }

    one_end : ended_of s.state ≡ true → ended_of t.state ≡ true → SameEnd s.state s.memory t.state t.memory
    one_end e f = same_left
        ((here s).demands.same_end m k w v (here s).manned (here t).manned cs ds (sym (run_here s).ended_is ∙ e) (sym run_there.ended_is ∙ f))

  -- every session is as the demands say
  pub code_demands : {workers : ℕ} {m : List ℕ} {cs : List Choice} (s : Session file workers m cs) → CodeDemands s
  code_demands {workers} {m} {cs} s =
      let a = here s in
      let r = run_here s in
      record {
        plan = a.plan;
        valid = a.valid;
        file_is = a.file_is;
        manned = a.manned;
        enough = a.enough;
        told_is = r.events_are;
        left_is = r.left_is;
        shows = rw (r.events_are, r.left_is, r.ended_is) (a.demands.runs m a.enough workers a.manned cs);
        same_end = λ t. one_end s t;
        one_worker_lem = λ {m} t. rw (run_of_lem t a.plan a.valid a.file_is).events_are (a.demands.one_worker_lem m);
        one_worker_stops = λ {m} t last. rw (run_of_lem t a.plan a.valid a.file_is).events_are (a.demands.one_worker_stops m last);
        one_worker_ends = λ {m} t. (run_of_lem t a.plan a.valid a.file_is).ended_is ∙ a.demands.one_worker_ends m;
        lines_answered = λ {w} {m} ls t. (run_of_lem t a.plan a.valid a.file_is).events_are ∙ a.demands.lines_answered m w (here t).manned ls;
      }

-- a choice on a state of zeros is refused with 14
zeros_refused : (why : Refusal) (m : List ℕ) (w l : ℕ) → (choose memory_source (machine_of (refused_with why).state m) w l).answer ≡ Refused 14
unfolding choose sound numbers_sound within machine_of refused_with
zeros_refused why m w l = refl

-- a refused opening writes nothing, and a choice on what it returns gets 14
pub refused_opening : (file : List ℕ) (workers : ℕ) (m : List ℕ) (o : Opened) (m' : List ℕ) (why : Refusal) →
    OpenCall file workers m o m' → o.answer ≡ Err why → RefusedOpening why m o m'
unfolding chosen_of
refused_opening file workers m o m' why (o_is, m-is) e =
    let (zeros, kept) = refusing (read_of file) workers m why (ap (λ x. x.answer) (sym o_is) ∙ e) in
    let all-zeros : o ≡ refused_with why = o_is ∙ zeros in
    record {
      zeros = all-zeros;
      kept = m-is ∙ kept;
      spoiled = λ mem w l r mem' called.
          let spoiled : answer_of r.answer ≡ Refused 14 =
          ap (λ c. c.answer) called
          ∙ subst (λ x. (choose memory_source (machine_of x.state mem) w l).answer ≡ Refused 14) (sym all-zeros) (zeros_refused why mem w l) in
          let (same, same_memory) = refused_unchanged o.state mem w l r mem' 14 called spoiled in (spoiled, same, same_memory);
    }
