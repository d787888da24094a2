-- `mark_all` meets its contract: the walk is left where no event is left, or where marking is settled.
use Rattle.std.proofs.Common.{◌≡◌, ◌+◌, sym, ap, ◌∙◌, arith}
use Rattle.std.proofs.lemmas.Option.{get_or_from_slice_get}
use Rattle.rules.specs.Journals.{mark_more}
use Rattle.tables.specs.Calls.{memory_source}
use Rattle.marking.specs.Marking.{marked_of, walked}
use Rattle.marking.proofs.StepLaws.{said_at_end}
use Rattle.marking.proofs.WalkLaws.{no_event, walk_turns, walk_ends, walk_settled}
use Rattle.marking.proofs.mark_all.Goals as goal
use Rattle.marking.proofs.mark_all.Goals.{else-loop-i-test, then-loop-i-test+in_default, then-loop-i-test+in-Some+then-settled}

pub loop-i-init : goal.loop-i-init
loop-i-init g c = ap (λ w. mark_more memory_source w 0 (g.J.Journal.events c.args.journal.now)) (sym c.begin-p.ensures)

pub loop-i-preserved : goal.loop-i-preserved
loop-i-preserved g c =
    walk_turns (g.J.Journal.events c.args.journal.now) _ c.loop-i.i _ _ c.loop-i.invariant c.in-Some.event _ _
    (omega arith) (get_or_from_slice_get (g.J.Journal.events c.args.journal.now) c.loop-i.i c.in-Some.event c.in-Some.event (sym c.event.ensures ∙ c.in-Some.is)) c.mark_event-p.ensures

pub returns : goal.returns
returns g c =
    let es = g.J.Journal.events c.args.journal.now in
    let at = c.loop-i in
    let all : marked_of c.loop-i-test.p c.loop-i-test.mem ≡ walked c.args.file.now c.args.workers es c.args.mem.now =
    elim c.loop-i-test.branch [
      | else-loop-i-test w ↦ rw (w.p-is, w.mem-is) (walk_ends es _ at.i _ _ at.invariant (omega (arith, w.loop-i-test.false)))
      | then-loop-i-test+in_default w ↦ rw (w.p-is, w.mem-is) (walk_ends es _ at.i _ _ at.invariant (no_event es at.i (sym w.event.ensures ∙ w.in_default.is)))
      | then-loop-i-test+in-Some+then-settled w ↦
          rw (w.p-is, w.mem-is)
          (walk_settled es _ (at.i + 1) _ _
          (walk_turns es _ at.i _ _ at.invariant w.in-Some.event _ _
          (omega (arith, w.loop-i-test.true)) (get_or_from_slice_get es at.i w.in-Some.event w.in-Some.event (sym w.event.ensures ∙ w.in-Some.is)) w.mark_event-p.ensures)
          w.settled.ensures w.if-settled.true)
    ] in
    said_at_end c.loop-i-test.p c.loop-i-test.mem all c.close.ensures
