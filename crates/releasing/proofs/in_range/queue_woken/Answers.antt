use Rattle.std.proofs.Common.{◌≡◌, List, ℕ, arith}
use Rattle.tables.specs.Releasing.{next_from}
use Rattle.tables.proofs.code.ScanLaws.{Next, next_of}
use Rattle.tables.proofs.code.Queueing as queueing
use Rattle.tables.proofs.code.Queueing.{Queueing}
use Rattle.releasing.proofs.Scanning.{some_is}
use Rattle.releasing.proofs.in_range.queue_woken.Goals as goal

-- the next cell that watches the token, at a turn
found : {m₀ : List ℕ} {d held from to : ℕ} {m : List ℕ} {cell at : ℕ} → Queueing m₀ d held from to m cell at → {r : ℕ} → r ≡ next_from m d cell held → Next m d cell held r
found {d = d} {held = held} {m = m} inv r-is = next_of m d held (omega (arith, queueing.queue_whole inv, inv.most)) inv.upto r-is

pub loop-at-init : goal.loop-at-init
loop-at-init c =
    queueing.queue_start c.args.mem.now _ _ _ _ _ c.requires.lent_in_bounds.0 c.requires.lent_in_bounds.1.1 c.requires.lent_in_bounds.1.0 c.requires.unwatched
    c.requires.ready_at_le_from.0 c.requires.ready_at_le_from.1.0 c.requires.ready_at_le_from.1.1

pub unwrap-next-requires : goal.unwrap-next-requires
unwrap-next-requires c = some_is _ (queueing.queue_inside c.loop-at.invariant c.loop-at-test.true (found c.loop-at.invariant c.next.ensures.value))

pub loop-at-preserved : goal.loop-at-preserved
loop-at-preserved c =
    queueing.queue_one c.loop-at.invariant c.loop-at-test.true (found c.loop-at.invariant (rw c.unwrap-next.ensures at c.next.ensures.value))

pub returns : goal.returns
returns c = queueing.queue_end c.loop-at.invariant c.loop-at-test.false
