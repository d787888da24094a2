use Rattle.tables.proofs.code.Moves as moves
use Rattle.releasing.proofs.in_range.move_woken.Goals as goal

pub close_up-requires-clause-n_value : goal.close_up-requires-clause-n_value
close_up-requires-clause-n_value c =
    let queued = rw (c.from-from.ensures, c.from-held.ensures) at c.queue_woken.ensures in
    rw c.from-held.ensures
    (moves.queued_count c.args.mem.now c.args.t.end c.args.past c.args.t.held c.requires.lent_in_bounds.0 c.requires.in_range.held
    c.requires.n_value.0 c.requires.n_value.1 queued)

pub close_up-requires-clause-unwatched : goal.close_up-requires-clause-unwatched
close_up-requires-clause-unwatched c =
    let queued = rw (c.from-from.ensures, c.from-held.ensures) at c.queue_woken.ensures in
    moves.queued_unwatched c.args.mem.now c.args.t.end c.args.past c.args.t.held c.requires.lent_in_bounds.0 c.requires.in_range.held
    c.requires.n_value.0 c.requires.n_value.1 queued c.requires.watcher_le_held.0 c.requires.watcher_le_held.1

pub mark_ready-requires-clause-below : goal.mark_ready-requires-clause-below
mark_ready-requires-clause-below c =
    let queued = rw (c.from-from.ensures, c.from-held.ensures) at c.queue_woken.ensures in
    let closed = rw c.from-held.ensures at c.close_up.ensures in
    rw (c.from-from.ensures, c.from.ensures)
    (moves.marks_allowed c.args.mem.now c.args.t.end c.args.past c.args.t.held c.requires.lent_in_bounds.0 c.requires.in_range.held
    c.requires.n_value.0 c.requires.n_value.1 queued closed c.requires.below)

-- not more watch the token than there are, and the others stay
pub overflow_sub-result : goal.overflow_sub-result
overflow_sub-result c =
    moves.watchers_most c.args.mem.now c.args.past c.args.t.held c.requires.lent_in_bounds.0 c.requires.in_range.held c.requires.n_value.0

pub returns-clause-answer : goal.returns-clause-answer
returns-clause-answer c =
    rw (moves.stay_is c.args.mem.now c.args.past c.args.t.held c.requires.lent_in_bounds.0 c.requires.in_range.held c.requires.n_value.0)

pub returns-clause-memory : goal.returns-clause-memory
returns-clause-memory c =
    let queued = rw (c.from-from.ensures, c.from-held.ensures) at c.queue_woken.ensures in
    let closed = rw c.from-held.ensures at c.close_up.ensures in
    let marked = rw (c.from-from.ensures, c.from.ensures) at c.mark_ready.ensures in
    rw c.from-2.ensures
    (moves.moved_is c.args.mem.now c.args.t.end c.args.past c.args.t.held c.requires.lent_in_bounds.0 c.requires.in_range.held
    c.requires.n_value.0 c.requires.n_value.1 queued closed marked)
