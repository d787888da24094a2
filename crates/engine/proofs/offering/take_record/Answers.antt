-- What is shown agrees with the record exactly if the choice gives its event.
use Rattle.std.proofs.Common.{refl, ◌∙◌, false, arith}
use Rattle.rules.specs.RunState.{slot_at}
use Rattle.rules.specs.Offers.{shown}
use Rattle.rules.proofs.choices.Offered.{line_accepted}
use Rattle.tables.specs.Calls.{memory_source}
use Rattle.state.specs.Machines.{machine_of}
use Rattle.engine.proofs.moves.Parts.{answered_of}
use Rattle.engine.proofs.moves.TakeLaws as laws
use Rattle.engine.proofs.offering.take_record.Goals as goal
use Rattle.engine.proofs.offering.take_record.Goals.{then-l-lt-SLOTS, else-l-lt-SLOTS}

pub returns : goal.returns
unfolding slot_at
returns c =
    let here = machine_of c.args.s c.args.mem.now in
    c.choose_if.ensures ∙ elim c.if-l-lt-SLOTS.branch [
      | then-l-lt-SLOTS w ↦
          laws.leave_takes here c.args.wanted _ c.args.other (w.leave-is ∙ w.leave_for-leave.ensures)
          (laws.shown_agrees here c.args.wanted w.shown-told.result
          (answered_of c.args.s w.figures.ensures w.slots-slots.ensures c.args.mem.now
          (λ m. shown memory_source m c.args.wanted.worker c.args.wanted.line)
          (w.shown-told.ensures c.args.s.counters _ (rw c.from-l.ensures refl))) refl)
      | else-l-lt-SLOTS w ↦
          laws.leave_takes here c.args.wanted false c.args.other w.leave-is
          (λ ok. absurd (omega (arith, w.if-l-lt-SLOTS.false, c.from-l.ensures, line_accepted memory_source here c.args.wanted.worker c.args.wanted.line ok)))
    ]
