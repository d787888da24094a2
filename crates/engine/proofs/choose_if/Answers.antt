-- What was worked out on a state's parts holds of the state.
use Rattle.std.proofs.Common.{is_ok}
use Rattle.rules.specs.RunState.{put_slot}
use Rattle.rules.specs.Choices.{choose}
use Rattle.rules.specs.Offers.{only_if}
use Rattle.tables.specs.Calls.{memory_source}
use Rattle.engine.specs.Taking.{other_of}
use Rattle.engine.proofs.moves.Parts.{turned_of}
use Rattle.engine.proofs.choose_if.Goals as goal

pub returns-in-Err : goal.returns-in-Err
returns-in-Err c =
    turned_of c.args.s c.figures-f.ensures c.slots-slots.ensures _
    (λ m. only_if m (is_ok c.args.leave) (other_of c.args.leave) (choose memory_source m c.args.worker.0 c.args.line.0))
    c.args.line.0 _ c.in-Err.is c.turn_of.ensures.chooses

pub returns-in-Ok : goal.returns-in-Ok
unfolding put_slot
returns-in-Ok c =
    rw c.from-l.ensures
    (turned_of c.args.s c.figures-f.ensures c.slots-slots.ensures _
    (λ m. only_if m (is_ok c.args.leave) (other_of c.args.leave) (choose memory_source m c.args.worker.0 c.args.line.0))
    c.args.line.0 _ c.in-Ok.is c.turn_of.ensures.chooses)
