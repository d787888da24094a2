use Rattle.std.proofs.Common.{sym, ◌∙◌, arith}
use Rattle.tables.proofs.code.Moves as moves
use Rattle.tables.proofs.code.ReleasingLaws as laws
use Rattle.releasing.proofs.Holds.{one_error}
use Rattle.releasing.proofs.in_range.release_watched.Goals as goal

pub returns-in_err-watchers-clause-answer : goal.returns-in_err-watchers-clause-answer
returns-in_err-watchers-clause-answer c =
    one_error c.from_residual.ensures.0
    ∙ (laws.release_bad c.args.t c.args.past c.args.mem.now c.requires.lent_in_bounds.1 (rw c.from-held.ensures at c.tally.ensures) c.in_err-watchers.was).0

pub returns-in_err-watchers-clause-memory : goal.returns-in_err-watchers-clause-memory
returns-in_err-watchers-clause-memory c =
    (laws.release_bad c.args.t c.args.past c.args.mem.now c.requires.lent_in_bounds.1 (rw c.from-held.ensures at c.tally.ensures) c.in_err-watchers.was).1

pub returns-then-t-watchers-clause-answer : goal.returns-then-t-watchers-clause-answer
returns-then-t-watchers-clause-answer c =
    (laws.release_full c.args.t c.args.past c.args.mem.now c.requires.lent_in_bounds.1 (rw c.from-held.ensures at c.tally.ensures) c.in_ok-watchers.was (omega (arith, c.if-t-watchers.true))).0

pub returns-then-t-watchers-clause-memory : goal.returns-then-t-watchers-clause-memory
returns-then-t-watchers-clause-memory c =
    (laws.release_full c.args.t c.args.past c.args.mem.now c.requires.lent_in_bounds.1 (rw c.from-held.ensures at c.tally.ensures) c.in_ok-watchers.was (omega (arith, c.if-t-watchers.true))).1

pub renew-requires-clause-kept_value : goal.renew-requires-clause-kept_value
renew-requires-clause-kept_value c =
    rw c.from-held.ensures
    (laws.kept_is c.args.t c.args.past c.args.mem.now c.requires.lent_in_bounds.1 (rw c.from-held.ensures at c.tally.ensures) c.in_ok-watchers.was)

pub returns-then-watchers-eq0-clause-answer : goal.returns-then-watchers-eq0-clause-answer
returns-then-watchers-eq0-clause-answer c =
    let count_is = laws.count_is c.args.t c.args.past c.args.mem.now c.requires.lent_in_bounds.1 (rw c.from-held.ensures at c.tally.ensures) c.in_ok-watchers.was in
    let asleep = sym count_is ∙ c.if-watchers-eq0.true in
    (laws.release_moved c.args.t c.args.past c.args.mem.now c.requires.lent_in_bounds.1 (rw c.from-held.ensures at c.tally.ensures) c.in_ok-watchers.was
    (omega (arith, c.if-t-watchers.false, c.requires.in_range.end))
    (moves.none_tables c.args.t c.args.past c.args.mem.now c.requires.in_range c.requires.lent_in_bounds.0 (rw c.from-held.ensures at c.renew.ensures) asleep)
    (moves.none_memory c.args.t c.args.past c.args.mem.now c.requires.in_range c.requires.lent_in_bounds.0 (rw c.from-held.ensures at c.renew.ensures) asleep)).0

pub returns-then-watchers-eq0-clause-memory : goal.returns-then-watchers-eq0-clause-memory
returns-then-watchers-eq0-clause-memory c =
    let count_is = laws.count_is c.args.t c.args.past c.args.mem.now c.requires.lent_in_bounds.1 (rw c.from-held.ensures at c.tally.ensures) c.in_ok-watchers.was in
    let asleep = sym count_is ∙ c.if-watchers-eq0.true in
    rw c.from.ensures
    (laws.release_moved c.args.t c.args.past c.args.mem.now c.requires.lent_in_bounds.1 (rw c.from-held.ensures at c.tally.ensures) c.in_ok-watchers.was
    (omega (arith, c.if-t-watchers.false, c.requires.in_range.end))
    (moves.none_tables c.args.t c.args.past c.args.mem.now c.requires.in_range c.requires.lent_in_bounds.0 (rw c.from-held.ensures at c.renew.ensures) asleep)
    (moves.none_memory c.args.t c.args.past c.args.mem.now c.requires.in_range c.requires.lent_in_bounds.0 (rw c.from-held.ensures at c.renew.ensures) asleep)).1

pub move_woken-requires-clause-watcher_le_held : goal.move_woken-requires-clause-watcher_le_held
move_woken-requires-clause-watcher_le_held c = (
  c.requires.watcher_le_held.0,
  moves.renewed_unwatched c.args.t c.args.past c.args.mem.now c.requires.in_range c.requires.lent_in_bounds.0 (rw c.from-held.ensures at c.renew.ensures)
      c.requires.watcher_le_held.0 c.requires.watcher_le_held.1,
)

pub move_woken-requires-clause-n_value : goal.move_woken-requires-clause-n_value
move_woken-requires-clause-n_value c =
    let count_is = laws.count_is c.args.t c.args.past c.args.mem.now c.requires.lent_in_bounds.1 (rw c.from-held.ensures at c.tally.ensures) c.in_ok-watchers.was in (
      moves.woken_number c.args.t c.args.past c.args.mem.now c.requires.in_range c.requires.lent_in_bounds.0 (rw c.from-held.ensures at c.renew.ensures) count_is,
      omega (arith, c.if-t-watchers.false, c.requires.in_range.end),
    )

pub move_woken-requires-clause-below : goal.move_woken-requires-clause-below
move_woken-requires-clause-below c =
    let sound = laws.all_sound c.args.t c.args.past c.args.mem.now c.requires.lent_in_bounds.1 (rw c.from-held.ensures at c.tally.ensures) c.in_ok-watchers.was in
    moves.woken_allowed c.args.t c.args.past c.args.mem.now c.requires.in_range c.requires.lent_in_bounds.0 (rw c.from-held.ensures at c.renew.ensures) sound

pub returns-clause-answer : goal.returns-clause-answer
returns-clause-answer c =
    let count_is = laws.count_is c.args.t c.args.past c.args.mem.now c.requires.lent_in_bounds.1 (rw c.from-held.ensures at c.tally.ensures) c.in_ok-watchers.was in
    (laws.release_moved c.args.t c.args.past c.args.mem.now c.requires.lent_in_bounds.1 (rw c.from-held.ensures at c.tally.ensures) c.in_ok-watchers.was
    (omega (arith, c.if-t-watchers.false, c.requires.in_range.end))
    (c.move_woken.ensures.answer ∙ moves.tables_are c.args.t c.args.past c.args.mem.now c.requires.in_range c.requires.lent_in_bounds.0 (rw c.from-held.ensures at c.renew.ensures) count_is)
    (moves.memory_is c.args.t c.args.past c.args.mem.now c.requires.in_range c.requires.lent_in_bounds.0 (rw c.from-held.ensures at c.renew.ensures) c.move_woken.ensures.memory)).0

pub returns-clause-memory : goal.returns-clause-memory
returns-clause-memory c =
    let count_is = laws.count_is c.args.t c.args.past c.args.mem.now c.requires.lent_in_bounds.1 (rw c.from-held.ensures at c.tally.ensures) c.in_ok-watchers.was in
    (laws.release_moved c.args.t c.args.past c.args.mem.now c.requires.lent_in_bounds.1 (rw c.from-held.ensures at c.tally.ensures) c.in_ok-watchers.was
    (omega (arith, c.if-t-watchers.false, c.requires.in_range.end))
    (c.move_woken.ensures.answer ∙ moves.tables_are c.args.t c.args.past c.args.mem.now c.requires.in_range c.requires.lent_in_bounds.0 (rw c.from-held.ensures at c.renew.ensures) count_is)
    (moves.memory_is c.args.t c.args.past c.args.mem.now c.requires.in_range c.requires.lent_in_bounds.0 (rw c.from-held.ensures at c.renew.ensures) c.move_woken.ensures.memory)).1
