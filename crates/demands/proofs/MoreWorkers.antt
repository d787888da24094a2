-- A session's choices do the same under a larger limit.
use mathlib.Core.Path.{◌≡◌, sym, ap, ◌∙◌}
use mathlib.Core.List.{List, []}
use Prim.Native.Nat.{ℕ, ◌≤◌}
use native.Mathlib.Omega.{arith}
use lib.ListN.{length, drop}
use Rattle.rules.specs.Lists.{Every}
use Rattle.rules.specs.RunState.{Machine}
use Rattle.rules.specs.Choices.{Choice, opened, ended}
use Rattle.rules.specs.RelatedSources.{map_machine}
use Rattle.rules.specs.WholeRuns.{Accepted, with_workers}
use Rattle.rules.specs.MoreWorkers.{accepted_choices, without_refusals, Known}
use Rattle.rules.proofs.runs.AcceptedOnly.{events_accepted}
use Rattle.rules.proofs.runs.MoreWorkers.{more_workers as rules_more}
use Rattle.fields.specs.Bytes.{Bytes}
use Rattle.plan.specs.Plan.{Plan}
use Rattle.tables.specs.State.{State}
use Rattle.tables.specs.Calls.{memory_source}
use Rattle.tables.specs.Matching.{beyond}
use Rattle.loading.specs.Plans.{pipeline_of}
use Rattle.state.specs.Machines.{machine_of}
use Rattle.demands.specs.Demands.{begun, told, left, end_state, Shows}
use Rattle.demands.specs.CodeRuns.{Session, events_of}
use Rattle.demands.specs.MoreWorkers.{LeftAlike, Reused, AcceptedReused, AnsweredAlike, MoreWorkers}
use Rattle.demands.proofs.Demands.{plain_end}
use Rattle.demands.proofs.Opens.{opens_exactly}
use Rattle.demands.proofs.CodeRuns.{here, run_here, run_there, same_left}

module _ {file : List ℕ} (bytes : Bytes file) {workers : ℕ} {m : List ℕ} {cs : List Choice} (s : Session file workers m cs) where
  abbrev p : Plan
  p = (here bytes s).plan

  -- the run with W workers in the session's memory
  abbrev begins : ℕ → Machine State
  begins w = opened (pipeline_of p) w (begun p m)

  -- another session of the file, by what that run does with its choices: what was lent plays no part in the answers, the state and the
  -- first 32,768 numbers
  module _ {larger : ℕ} {k : List ℕ} {ds : List Choice} (t : Session file larger k ds) where
    abbrev shown : (n : List ℕ) → 32768 ≤ length n → Shows p larger n ds (told p n larger ds) (left p n larger ds) (ended (left p n larger ds))
    shown n enough = (here bytes s).demands.runs n enough larger (here bytes t).manned ds

    told_as : events_of t ≡ told p m larger ds
    told_as =
        (run_there bytes s t).events_are
        ∙ (shown k (here bytes t).enough).answers_as_rules ∙ sym (shown m (here bytes s).enough).answers_as_rules

    lent : (n : List ℕ) → left p n larger ds ≡ map_machine (beyond (drop 32768 n)) (left p [] larger ds)
    lent n = (here bytes s).demands.whatever_lent n larger (here bytes t).manned ds

    left_as : left p m larger ds ≡ with_workers larger (left p m workers cs) → LeftAlike s t
    unfolding machine_of
    left_as e = record {
      end = same_left bytes s t (sym (ap end_state e)
          ∙ plain_end p (here bytes s).valid m larger (here bytes t).manned ds ∙ sym (plain_end p (here bytes s).valid k larger (here bytes t).manned ds));
      numbers = λ beyond-same. ap (λ (a : Machine State). a.source.1)
          (ap (with_workers larger) (run_here bytes s).left_is ∙ sym e
          ∙ lent m ∙ ap (λ r. map_machine (beyond r) (left p [] larger ds)) beyond-same ∙ sym (lent k) ∙ sym (run_there bytes s t).left_is);
    }

  -- another session with the same choices
  module _ {larger : ℕ} {k : List ℕ} (t : Session file larger k cs) (more : workers ≤ larger) where
    alike : Every (Known workers) cs → AnsweredAlike s t
    unfolding opened
    alike known =
        let r = (rules_more memory_source (begins workers)).answered_alike larger more (here bytes t).manned.most cs known
        ((here bytes s).demands.runs m (here bytes s).enough workers (here bytes s).manned cs).never_spoiled in
        record { told = told_as t ∙ r.told ∙ sym (run_here bytes s).events_are; left = left_as t r.left }

    reuse : Every Accepted (events_of s) → Reused s t
    unfolding opened
    reuse accepted =
        let r = (rules_more memory_source (begins workers)).reused larger more (here bytes t).manned.most cs (rw (run_here bytes s).events_are at accepted) in
        let events : events_of t ≡ events_of s = told_as t ∙ r.events ∙ sym (run_here bytes s).events_are in
        record { accepted = rw events accepted; events = events; left = left_as t r.left }

  -- another session with those of them that were accepted
  reuse_accepted : {larger : ℕ} {k : List ℕ} (t : Session file larger k (accepted_choices cs (events_of s))) → workers ≤ larger → AcceptedReused s t
  unfolding opened
  reuse_accepted {larger} t more =
      let r = (rules_more memory_source (begins workers)).accepted_reused larger more (here bytes t).manned.most cs in
      let same : events_of s ≡ told p m workers cs = (run_here bytes s).events_are in
      let events : events_of t ≡ without_refusals (events_of s) = told_as t ∙ rw same r.events in
      record { accepted = rw events (events_accepted (events_of s)); events = events; left = left_as t (rw same r.left) }

  -- so of every session
  pub more_workers : MoreWorkers s
  more_workers =
      let a = here bytes s in
      record {
        opens = λ larger more most k enough o k' called.
            ap (λ o. o.answer) called.0
            ∙ (opens_exactly file bytes larger k).1 (a.plan, a.valid, a.file_is, record { some = omega (arith, a.manned.some); most = most }, enough);
        reused = λ accepted t more. reuse t more accepted;
        accepted_reused = λ t more. reuse_accepted t more;
        answered_alike = λ known t more. alike t more known;
      }
