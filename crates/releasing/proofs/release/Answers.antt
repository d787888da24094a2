use Rattle.std.proofs.Common.{◌≡◌, List, ℕ, ◌≤◌, length, arith}
use Rattle.tables.specs.declared.Tables.{Tables}
use Rattle.tables.specs.State.{InRange}
use Rattle.tables.specs.Releasing.{next_from}
use Rattle.tables.proofs.code.CallLaws as calls
use Rattle.tables.proofs.code.ScanLaws.{Next, next_of}
use Rattle.tables.proofs.code.Moves.{release_nobody}
use Rattle.tables.proofs.code.ReleasingLaws.{release_beyond}
use Rattle.releasing.proofs.release.Goals as goal

-- the first cell that watches the token
found : {t : Tables} {d : ℕ} {m : List ℕ} → InRange t × (32768 ≤ length m) → {h r : ℕ} → h ≡ t.held → r ≡ next_from m d 0 h → Next m d 0 t.held r
found {t = t} {d = d} {m = m} ok h-is e = next_of m d t.held (omega (arith, ok.0.held, ok.1)) (omega arith) (rw h-is at e)

pub returns-then-not-sound-clause-answer : goal.returns-then-not-sound-clause-answer
returns-then-not-sound-clause-answer c = (calls.releases_none c.args.t c.args.mem.now c.sound.ensures c.args.past c.if-not-sound.true).0

pub returns-then-not-sound-clause-memory : goal.returns-then-not-sound-clause-memory
returns-then-not-sound-clause-memory c = (calls.releases_none c.args.t c.args.mem.now c.sound.ensures c.args.past c.if-not-sound.true).1

pub returns-then-t-past-clause-answer : goal.returns-then-t-past-clause-answer
returns-then-t-past-clause-answer c =
    (calls.releases c.args.t c.args.mem.now c.sound.ensures c.args.past c.if-not-sound.false
    (release_beyond c.args.t c.args.past c.args.mem.now c.if-t-past.true)).0

pub returns-then-t-past-clause-memory : goal.returns-then-t-past-clause-memory
returns-then-t-past-clause-memory c =
    (calls.releases c.args.t c.args.mem.now c.sound.ensures c.args.past c.if-not-sound.false
    (release_beyond c.args.t c.args.past c.args.mem.now c.if-t-past.true)).1

pub next-requires : goal.next-requires
next-requires c =
    let ok = calls.in_range c.args.t c.args.mem.now c.sound.ensures c.if-not-sound.false in (ok.1, (omega arith, omega (arith, ok.0.held, c.from-held.ensures)))

pub release_watched-requires-clause-in_range : goal.release_watched-requires-clause-in_range
release_watched-requires-clause-in_range c = (calls.in_range c.args.t c.args.mem.now c.sound.ensures c.if-not-sound.false).0

pub release_watched-requires-clause-lent_in_bounds : goal.release_watched-requires-clause-lent_in_bounds
release_watched-requires-clause-lent_in_bounds c = ((calls.in_range c.args.t c.args.mem.now c.sound.ensures c.if-not-sound.false).1, c.if-t-past.false)

pub release_watched-requires-clause-watcher_le_held : goal.release_watched-requires-clause-watcher_le_held
release_watched-requires-clause-watcher_le_held c =
    let ok = calls.in_range c.args.t c.args.mem.now c.sound.ensures c.if-not-sound.false in
    let next = found {t = c.args.t} {d = c.args.past} ok c.from-held.ensures c.in-Some.ensures.value in
    (next.upto, λ i below. next.none i (omega arith) below)

pub returns-in-Some-clause-answer : goal.returns-in-Some-clause-answer
returns-in-Some-clause-answer c =
    (calls.releases c.args.t c.args.mem.now c.sound.ensures c.args.past c.if-not-sound.false
    (c.release_watched.ensures.answer, c.release_watched.ensures.memory)).0

pub returns-in-Some-clause-memory : goal.returns-in-Some-clause-memory
returns-in-Some-clause-memory c =
    (calls.releases c.args.t c.args.mem.now c.sound.ensures c.args.past c.if-not-sound.false
    (c.release_watched.ensures.answer, c.release_watched.ensures.memory)).1

pub bounds-mem-from : goal.bounds-mem-from
bounds-mem-from c =
    let ok = calls.in_range c.args.t c.args.mem.now c.sound.ensures c.if-not-sound.false in
    omega (arith, c.from.ensures, ok.1, ok.0.tokens, c.if-t-past.false)

pub returns-clause-answer : goal.returns-clause-answer
returns-clause-answer c =
    let ok = calls.in_range c.args.t c.args.mem.now c.sound.ensures c.if-not-sound.false in
    (calls.releases c.args.t c.args.mem.now c.sound.ensures c.args.past c.if-not-sound.false
    (release_nobody c.args.t c.args.past c.args.mem.now ok.0 ok.1 c.if-t-past.false
    (found {t = c.args.t} {d = c.args.past} ok c.from-held.ensures c.in_default.ensures.value) (omega (arith, c.from-held.ensures)))).0

pub returns-clause-memory : goal.returns-clause-memory
returns-clause-memory c =
    let ok = calls.in_range c.args.t c.args.mem.now c.sound.ensures c.if-not-sound.false in
    rw c.from.ensures
    (calls.releases c.args.t c.args.mem.now c.sound.ensures c.args.past c.if-not-sound.false
    (release_nobody c.args.t c.args.past c.args.mem.now ok.0 ok.1 c.if-t-past.false
    (found {t = c.args.t} {d = c.args.past} ok c.from-held.ensures c.in_default.ensures.value) (omega (arith, c.from-held.ensures)))).1
