use Rattle.std.proofs.Common.{rules, ◌≡◌, ◌-◌, false, ◌∙◌, arith}
use Rattle.std.specs.Result.{MatchResult}
use lib.Dec.{leb}
use borrow.Author.Tests.{le-ltb}
use Rattle.tables.proofs.code.CallLaws as calls
use Rattle.tables.proofs.code.ReleasingLaws as laws
use Rattle.releasing.proofs.Room.{room_told}
use Rattle.releasing.proofs.would_release.Goals as goal

pub returns-then-not-sound : goal.returns-then-not-sound
returns-then-not-sound c = calls.passes_not c.args.t c.args.mem.now c.sound.ensures c.args.past c.if-not-sound.true

pub overflow_sub-room : goal.overflow_sub-room
overflow_sub-room c = (calls.in_range c.args.t c.args.mem.now c.sound.ensures c.if-not-sound.false).0.end

pub tally-requires-clause-lent_in_bounds : goal.tally-requires-clause-lent_in_bounds
tally-requires-clause-lent_in_bounds c =
    let ok = calls.in_range c.args.t c.args.mem.now c.sound.ensures c.if-not-sound.false in (ok.1, ok.0.tokens)

pub tally-requires-clause-watcher_le_held : goal.tally-requires-clause-watcher_le_held
tally-requires-clause-watcher_le_held c =
    let ok = calls.in_range c.args.t c.args.mem.now c.sound.ensures c.if-not-sound.false in (omega arith, omega (arith, ok.0.held, c.from-held.ensures))

pub returns-then-past-t : goal.returns-then-past-t
returns-then-past-t c =
    let told : MatchResult c.tally.result (λ w. c.is_ok_and.result ≡ leb w.free (4096 - c.args.t.end)) (λ e. c.is_ok_and.result ≡ false) = search rules in
    calls.passes_too c.args.t c.args.mem.now c.sound.ensures c.args.past c.if-not-sound.false
    (room_told c.args.t c.args.past c.args.mem.now c.if-past-t.true (calls.in_range c.args.t c.args.mem.now c.sound.ensures c.if-not-sound.false).0.end
    c.tally.result (rw c.from-held.ensures at c.tally.ensures) told)

pub returns-else-past-t : goal.returns-else-past-t
returns-else-past-t c =
    calls.passes_too c.args.t c.args.mem.now c.sound.ensures c.args.past c.if-not-sound.false
    (le-ltb c.args.past c.args.t.tokens c.if-past-t.false ∙ laws.told_broken _ (laws.release_beyond c.args.t c.args.past c.args.mem.now c.if-past-t.false).0)
