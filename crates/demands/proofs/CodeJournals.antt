-- The code marks a journal as the choices that give its events say.
use Rattle.std.proofs.Common.{Ok, Err}
use mathlib.Core.Path.{◌≡◌, refl, sym, ap, subst, ◌∙◌}
use mathlib.Core.Logic.{inl, inr}
use mathlib.Core.Bool.{Bool, true, false}
use mathlib.Core.List.{List, ◌++◌, map}
use Prim.Native.Nat.{ℕ, ◌+◌, ◌*◌, ◌≤◌}
use native.Mathlib.Omega.{arith}
use lib.ListN.{length, take, drop}
use Rattle.vocabulary.specs.Refusals.{number_of}
use Rattle.vocabulary.specs.declared.event.EventRecord.{EventRecord}
use Rattle.vocabulary.specs.declared.refusal.Refusal.{Refusal}
use Rattle.rules.specs.RunState.{Machine}
use Rattle.rules.specs.Ranges.{sound}
use Rattle.rules.specs.Choices.{Choice, ended, opened}
use Rattle.rules.specs.Offers.{record_of}
use Rattle.rules.specs.MoreWorkers.{without_refusals, accepted_in}
use Rattle.rules.specs.WholeRuns.{WorkersInRange, accepted}
use Rattle.rules.specs.Journals.{Verdict, goes_on, closing, Marked, mark_events, mark_more, journal_of, JournalMarked}
use Rattle.rules.specs.Journals as paper
use Rattle.rules.proofs.lists.Tests.{by_test, bool_ext}
use Rattle.rules.proofs.runs.AcceptedOnly.{events_kept}
use Rattle.rules.proofs.runs.MoreWorkers.{more_workers as rules_more}
use Rattle.rules.proofs.runs.Journals.{journal_order, journal_length, more_stuck, journal_marked}
use Rattle.fields.specs.Bytes.{Bytes}
use Rattle.plan.specs.Plan.{Plan, Valid, encode}
use Rattle.plan.specs.Reading.{read_of}
use Rattle.plan.proofs.Theorem.{one_plan}
use Rattle.tables.specs.State as tables
use Rattle.tables.specs.Calls.{memory_source}
use Rattle.state.specs.Machines.{machine_of}
use Rattle.state.specs.Ending.{ended_of}
use Rattle.state.proofs.in_range.SoundLaws.{over_is}
use Rattle.opening.specs.Opened.{opened_machine, open_of}
use Rattle.marking.specs.declared.Marking.{Marking}
use Rattle.marking.specs.Marking.{verdict_of, opened_verdict, begun, over_in, walked, closed, left_memory}
use Rattle.demands.specs.Demands.{order, told, left, Shows, Demands}
use Rattle.demands.specs.OpenedRun.{OpenedRun}
use Rattle.demands.specs.CodeRuns.{Session, events_of}
use Rattle.demands.specs.CodeJournals.{MarkCall, Passes, MarkedRun, CodeMarks, SessionMarked, SameWithMore}
use Rattle.demands.proofs.Demands.{plain_end}
use Rattle.demands.proofs.Opens.{refusing, opened_run_lem, opens_exactly}
use Rattle.demands.proofs.CodeRuns.{left_sound, RunOf, here as opened_here, run_of_lem}
use Rattle.demands.proofs.OneAnswer.{refusal_at, number_back}

-- the answer with these values of the paper
marking_at : Verdict → Marking
marking_at paper.Complete = Marking.Complete
marking_at paper.CorrectSoFar = Marking.CorrectSoFar
marking_at (paper.Wrong i n) = Marking.Wrong i (refusal_at n)
marking_at (paper.NotOpened n) = Marking.NotOpened (refusal_at n)

marking_back : (r : Marking) → marking_at (verdict_of r) ≡ r
unfolding marking_at
marking_back Marking.Complete = refl
marking_back Marking.CorrectSoFar = refl
marking_back (Marking.Wrong i why) = ap (Marking.Wrong i) (number_back why)
marking_back (Marking.NotOpened why) = ap Marking.NotOpened (number_back why)

-- two answers that stand for one are one
one_marking : (r q : Marking) → verdict_of r ≡ verdict_of q → r ≡ q
one_marking r q e = sym (marking_back r) ∙ ap marking_at e ∙ marking_back q

-- closing by two tests that agree while no event is wrong
closes : (b c : Bool) (v : Verdict) → (goes_on v ≡ true → b ≡ c) → closing b v ≡ closing c v
closes b c v same = by_test (goes_on v) (λ e. rw (e, same e)) (λ e. rw e)

-- one of four
data Kinds (r : Marking) : Type 0 where
  passed : Passes r → Kinds r
  wrong : (i : ℕ) (why : Refusal) → r ≡ Marking.Wrong i why → Kinds r
  unopened : (why : Refusal) → r ≡ Marking.NotOpened why → Kinds r

kinds : (r : Marking) → Kinds r
kinds Marking.Complete = passed (inl refl)
kinds Marking.CorrectSoFar = passed (inr refl)
kinds (Marking.Wrong i why) = wrong i why refl
kinds (Marking.NotOpened why) = unopened why refl

module _ (file : List ℕ) (bytes : Bytes file) (workers : ℕ) (events : List EventRecord) (m : List ℕ) (r : Marking) (m' : List ℕ) (called : MarkCall file workers events m r m') where
  -- a refused opening
  when_refused : (why : Refusal) → (open_of file workers m).0.answer ≡ Err why → (r ≡ Marking.NotOpened why) × (m' ≡ m)
  unfolding begun machine_of
  when_refused why e =
      let verdict-is : (begun file workers m).verdict ≡ paper.NotOpened (number_of why) = ap opened_verdict e in
      let stays : walked file workers events m ≡ begun file workers m = more_stuck memory_source (begun file workers m) 0 events (ap goes_on verdict-is) in
      let told_is : verdict_of r ≡ paper.NotOpened (number_of why) = called.0 ∙ ap closed stays ∙ rw verdict-is in
      (one_marking r (Marking.NotOpened why) told_is, called.1 ∙ ap left_memory stays ∙ (refusing (read_of file) workers m why e).1)

  module _ (accepts : (open_of file workers m).0.answer ≡ Ok tt) where
    here : OpenedRun file workers m
    here = opened_run_lem file bytes workers m accepts

    abbrev start : Machine tables.State
    start = opened_machine here.plan workers m

    abbrev w : Marked tables.State
    w = mark_events memory_source start 0 events

    begins : begun file workers m ≡ record { verdict = paper.CorrectSoFar; machine = start }
    unfolding begun
    begins = λ i. record { verdict = opened_verdict (accepts i); machine = here.machine i }

    walked_is : walked file workers events m ≡ w
    unfolding mark_more
    walked_is = ap (λ b. mark_more memory_source b 0 events) begins

    rules : JournalMarked memory_source start events w
    rules = journal_marked memory_source start events

    -- while no event is wrong the run is one of the plan's, so that the code's test of its end is that of the rules
    over_as_ended : goes_on w.verdict ≡ true → over_in w.machine ≡ ended w.machine
    over_as_ended g =
        let (cs, gives) = rules.passes.0 g in
        let ok : sound memory_source w.machine ≡ true =
        ap (sound memory_source) (sym (rules.left cs gives)) ∙ left_sound here.demands m here.enough here.manned cs in
        over_is w.machine ok

    told_is : verdict_of r ≡ closing (ended w.machine) w.verdict
    told_is =
        called.0
        ∙ ap closed walked_is
        ∙ closes (over_in w.machine) (ended w.machine) w.verdict over_as_ended

    memory_is : m' ≡ w.machine.source.1
    memory_is = called.1 ∙ ap left_memory walked_is

    memory_by : (cs : List Choice) → left here.plan m workers cs ≡ w.machine → m' ≡ (left here.plan m workers cs).source.1
    memory_by cs e = memory_is ∙ sym (ap (λ (a : Machine tables.State). a.source.1) e)

    abbrev Ended : Bool → Type 0
    Ended b = (cs : List Choice) × (journal_of (told here.plan m workers cs) ≡ events) × (ended (left here.plan m workers cs) ≡ b)

    is_complete : r ≡ Marking.Complete → Ended true
    is_complete e = rules.complete.0 (sym told_is ∙ ap verdict_of e)

    to_complete : Ended true → r ≡ Marking.Complete
    to_complete given = one_marking r Marking.Complete (told_is ∙ rules.complete.1 given)

    is_so_far : r ≡ Marking.CorrectSoFar → Ended false
    is_so_far e = rules.so_far.0 (sym told_is ∙ ap verdict_of e)

    to_so_far : Ended false → r ≡ Marking.CorrectSoFar
    to_so_far given = one_marking r Marking.CorrectSoFar (told_is ∙ rules.so_far.1 given)

    abbrev GivenHere : Type 0
    GivenHere = (cs : List Choice) × (journal_of (told here.plan m workers cs) ≡ events)

    given_here : Passes r → GivenHere
    given_here (inl e) = let (cs, g, over) = is_complete e in (cs, g)
    given_here (inr e) = let (cs, g, over) = is_so_far e in (cs, g)

    passes_here : GivenHere → Passes r
    passes_here (cs, g) = by_test (ended (left here.plan m workers cs)) (λ e. inl (to_complete (cs, g, e))) (λ e. inr (to_so_far (cs, g, e)))

    shows : (cs : List Choice) → Shows here.plan workers m cs (told here.plan m workers cs) (left here.plan m workers cs) (ended (left here.plan m workers cs))
    shows cs = here.demands.runs m here.enough workers here.manned cs

    -- some choices leave what marking left, whatever it says
    left_by : (cs : List Choice) × (m' ≡ (left here.plan m workers cs).source.1)
    left_by = elim (kinds r) [
      | passed ok ↦ let (cs, g) = given_here ok in (cs, memory_by cs (rules.left cs g))
      | wrong i why e ↦
          let first = rules.wrong i (number_of why) (sym told_is ∙ ap verdict_of e) in
          let (cs, g) = first.earlier i (omega arith) in
          (cs, memory_by cs (first.leaves cs g))
      | unopened why e ↦ absurd (rules.opened (number_of why) (sym told_is ∙ ap verdict_of e))
    ]

    when_accepted : MarkedRun file workers events m r m'
    when_accepted = record {
      plan = here.plan;
      valid = here.valid;
      file_is = here.file_is;
      manned = here.manned;
      enough = here.enough;
      passes = (given_here, passes_here);
      complete = (is_complete, to_complete);
      so_far = (is_so_far, to_so_far);
      memory = λ cs gives. memory_by cs (rules.left cs gives);
      wrong = λ i why e. (w.machine, rules.wrong i (number_of why) (sym told_is ∙ ap verdict_of e), memory_is);
      opened = λ why e. rules.opened (number_of why) (sym told_is ∙ ap verdict_of e);
      length_kept = let (cs, e) = left_by in ap length e ∙ (shows cs).length_kept;
      beyond_kept = let (cs, e) = left_by in ap (drop 32768) e ∙ (shows cs).beyond_kept;
      key_part = λ ok.
          let (cs, g) = given_here ok in
          let order_is = ap paper.order_in (sym g) ∙ journal_order (told here.plan m workers cs) in
          let (rest, e) = (shows cs).order_part in
          (rest, ap (λ o. o ++ rest) order_is ∙ e);
      key = λ e.
          let (cs, g, over) = is_complete e in
          ap paper.order_in (sym g) ∙ journal_order (told here.plan m workers cs) ∙ (shows cs).order_whole over;
      count = λ ok. (
        λ e. let (cs, g, over) = is_complete e in ap length (sym g) ∙ journal_length (told here.plan m workers cs) ∙ (shows cs).count.0 over,
        λ long.
            let (cs, g) = given_here ok in
            to_complete (cs, g, (shows cs).count.1 (sym (journal_length (told here.plan m workers cs)) ∙ ap length g ∙ long)),
      );
    }

  -- every call of `mark` is as 02 says
  pub code_marks : CodeMarks file workers events m r m'
  code_marks = record { refused = when_refused; accepted = when_accepted }

-- an opened file's plan, by whatever name
demands_of : {file : List ℕ} {workers : ℕ} {m : List ℕ} → OpenedRun file workers m → (p : Plan) → Valid p → file ≡ encode p → Demands p
demands_of a p valid file_is = subst Demands (one_plan a.plan p a.valid valid (sym a.file_is ∙ file_is)) a.demands

-- the journal of a session
module _ {file : List ℕ} (bytes : Bytes file) {workers : ℕ} {lent : List ℕ} {cs : List Choice} (s : Session file workers lent cs)
    (m : List ℕ) (enough : 32768 ≤ length m) (r : Marking) (m' : List ℕ) (called : MarkCall file workers (journal_of (events_of s)) m r m') where
  accepts : (open_of file workers m).0.answer ≡ Ok tt
  accepts = let a = opened_here bytes s in (opens_exactly file bytes workers m).1 (a.plan, a.valid, a.file_is, a.manned, enough)

  abbrev marked : MarkedRun file workers (journal_of (events_of s)) m r m'
  marked = (code_marks file bytes workers (journal_of (events_of s)) m r m' called).accepted accepts

  abbrev p : Plan
  p = marked.plan

  run : RunOf p s
  run = run_of_lem bytes s p marked.valid marked.file_is

  demanded : Demands p
  demanded = demands_of (opened_here bytes s) p marked.valid marked.file_is

  shown : (n : List ℕ) → 32768 ≤ length n → Shows p workers n cs (told p n workers cs) (left p n workers cs) (ended (left p n workers cs))
  shown n long = demanded.runs n long workers marked.manned cs

  -- the session's choices are answered alike in both memories, and end both runs or neither
  same_told : told p m workers cs ≡ told p lent workers cs
  same_told = (shown m enough).answers_as_rules ∙ sym (shown lent (opened_here bytes s).enough).answers_as_rules

  same_ended : ended (left p m workers cs) ≡ ended_of s.state
  same_ended =
      bool_ext (ended (left p m workers cs)) (ended (left p lent workers cs))
      (λ e. (shown lent (opened_here bytes s).enough).count.1 (ap accepted (sym same_told) ∙ (shown m enough).count.0 e))
      (λ e. (shown m enough).count.1 (ap accepted same_told ∙ (shown lent (opened_here bytes s).enough).count.0 e))
      ∙ sym run.ended_is

  gives : journal_of (told p m workers cs) ≡ journal_of (events_of s)
  gives = ap journal_of (same_told ∙ sym run.events_are)

  pub session_marked : SessionMarked s r m'
  unfolding machine_of
  session_marked = record {
    complete = λ e. marked.complete.1 (cs, gives, same_ended ∙ e);
    so_far = λ e. marked.so_far.1 (cs, gives, same_ended ∙ e);
    memory =
        ap (take 32768) (marked.memory cs gives)
        ∙ ap (λ (a : Machine tables.State). a.source.1)
        (plain_end p marked.valid m workers marked.manned cs ∙ sym (plain_end p marked.valid lent workers marked.manned cs))
        ∙ sym (ap (λ (a : Machine tables.State). take 32768 a.source.1) run.left_is);
  }

-- a journal marked with W workers, and with more
module _ (file : List ℕ) (bytes : Bytes file) (events : List EventRecord) {w v : ℕ} (more : w ≤ v) (most : v ≤ 32)
    (m m' k k' : List ℕ) (r q : Marking) (called : MarkCall file w events m r m') (again : MarkCall file v events k q k')
    (accepts-first : (open_of file w m).0.answer ≡ Ok tt) (long : 32768 ≤ length k) where
  first : MarkedRun file w events m r m'
  first = (code_marks file bytes w events m r m' called).accepted accepts-first

  manned : WorkersInRange v
  manned = record { some = omega (arith, first.manned.some); most = most }

  second : MarkedRun file v events k q k'
  second = (code_marks file bytes v events k q k' again).accepted ((opens_exactly file bytes v k).1 (first.plan, first.valid, first.file_is, manned, long))

  same_plan : second.plan ≡ first.plan
  same_plan = one_plan second.plan first.plan second.valid first.valid (sym second.file_is ∙ first.file_is)

  demanded_first : Demands first.plan
  demanded_first = demands_of (opened_run_lem file bytes w m accepts-first) first.plan first.valid first.file_is

  -- the accepted of its choices give it with more workers too
  given_more : Passes r → (ds : List Choice) × (journal_of (told second.plan k v ds) ≡ events)
  unfolding opened
  given_more ok =
      let (cs, g) = first.passes.0 ok in
      let p = first.plan in
      let ds : List Choice = accepted_in memory_source (opened_machine p w m) cs in
      let reused = (rules_more memory_source (opened_machine p w m)).accepted_reused v more most cs in
      let told_is : told p k v ds ≡ without_refusals (told p m w cs) =
      (demanded_first.runs k long v manned ds).answers_as_rules ∙ sym (demanded_first.runs m first.enough v manned ds).answers_as_rules ∙ reused.events in
      (ds, ap (λ x. journal_of (told x k v ds)) same_plan ∙ ap journal_of told_is ∙ ap (map record_of) (events_kept (told p m w cs)) ∙ g)

  by_word : (x y : Marking) → Passes x → Passes y → (x ≡ Marking.Complete → y ≡ Marking.Complete) → (y ≡ Marking.Complete → x ≡ Marking.Complete) → y ≡ x
  by_word x y (inl e) py there back = there e ∙ sym e
  by_word x y (inr e) (inl f) there back = f ∙ sym (back f)
  by_word x y (inr e) (inr f) there back = f ∙ sym e

  pub marked_with_more : SameWithMore r q
  marked_with_more ok =
      let passes = second.passes.1 (given_more ok) in
      let size = ap (λ x. 2 * length (order x) * length x.kinds + 1) same_plan in
      by_word r q ok passes
      (λ e. (second.count passes).1 ((first.count ok).0 e ∙ sym size))
      (λ e. (first.count ok).1 ((second.count passes).0 e ∙ size))
