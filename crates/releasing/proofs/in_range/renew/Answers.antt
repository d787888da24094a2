use Rattle.std.proofs.Common.{◌≡◌, List, ℕ, ◌≤◌, ◌∙◌, take, arith}
use Rattle.tables.specs.Facts.{Hold, left_hold}
use Rattle.tables.specs.Calls.{safe_left_hold}
use Rattle.tables.specs.Releasing.{next_from}
use Rattle.tables.proofs.code.ScanLaws.{Next, next_of}
use Rattle.tables.proofs.code.Renewing as renewing
use Rattle.tables.proofs.code.Renewing.{Renewing}
use Rattle.tables.proofs.code.CallLaws.{left_is}
use Rattle.releasing.proofs.Holds.{by_number, by_none}
use Rattle.releasing.proofs.Scanning.{some_is}
use Rattle.releasing.proofs.in_range.renew.Goals as goal
use Rattle.releasing.proofs.in_range.renew.Goals.{in-Some, in_default}

-- the next cell that watches the token, at a turn, and what still holds its token
module _ {m₀ : List ℕ} {tokens d held : ℕ} {m : List ℕ} {cell n : ℕ} (inv : Renewing m₀ tokens d held m cell n) where
  found : {r : ℕ} → r ≡ next_from m d cell held → Next m d cell held r
  found r-is = next_of m d held (omega (arith, renewing.renew_whole inv, inv.done.most)) inv.done.upto r-is

  told : tokens ≤ 4096 → (t : ℕ) {h : Hold} → h ≡ safe_left_hold m tokens d t → h ≡ left_hold (take 20480 m) tokens d t
  told few t e = e ∙ left_is m tokens d t (renewing.renew_whole inv) few

pub loop-left-init : goal.loop-left-init
loop-left-init c =
    renewing.renew_start c.args.mem.now _ _ _ _ _ c.requires.lent_in_bounds.0 c.requires.watcher_le_held.1 c.requires.watcher_le_held.0
    c.requires.unwatched c.requires.kept_value

pub unwrap-cell-requires : goal.unwrap-cell-requires
unwrap-cell-requires c =
    some_is _ (renewing.renew_inside c.loop-left.invariant c.loop-left-test.true (found c.loop-left.invariant c.next.ensures.value))

pub overflow_add-token : goal.overflow_add-token
overflow_add-token c = let inside = rw c.unwrap-cell.ensures at c.next.ensures.inside in omega (arith, inside, c.requires.watcher_le_held.1)

pub offset_bounds-mem-cell : goal.offset_bounds-mem-cell
offset_bounds-mem-cell c = let inside = rw c.unwrap-cell.ensures at c.next.ensures.inside in omega (arith, inside, c.requires.watcher_le_held.1)

pub overflow_add-mem : goal.overflow_add-mem
overflow_add-mem c = let inside = rw c.unwrap-cell.ensures at c.next.ensures.inside in omega (arith, inside, c.requires.watcher_le_held.1)

pub offset_bounds-mem-cell-in-Some : goal.offset_bounds-mem-cell-in-Some
offset_bounds-mem-cell-in-Some c = let inside = rw c.unwrap-cell.ensures at c.next.ensures.inside in omega (arith, inside, c.requires.watcher_le_held.1)

pub bounds-mem-cell : goal.bounds-mem-cell
bounds-mem-cell c =
    let inside = rw c.unwrap-cell.ensures at c.next.ensures.inside in
    omega (arith, inside, c.requires.watcher_le_held.1, renewing.renew_whole c.loop-left.invariant)

pub bounds-mem-cell-in-Some : goal.bounds-mem-cell-in-Some
bounds-mem-cell-in-Some c =
    let inside = rw c.unwrap-cell.ensures at c.next.ensures.inside in
    omega (arith, inside, c.requires.watcher_le_held.1, renewing.renew_whole c.loop-left.invariant)

pub overflow_add-from : goal.overflow_add-from
overflow_add-from c = let inside = rw c.unwrap-cell.ensures at c.next.ensures.inside in omega (arith, inside, c.requires.watcher_le_held.1)

pub loop-left-smaller : goal.loop-left-smaller
loop-left-smaller c =
    let next = found c.loop-left.invariant (rw c.unwrap-cell.ensures at c.next.ensures.value) in
    omega (arith, next.from, renewing.renew_inside c.loop-left.invariant c.loop-left-test.true next)

pub loop-left-preserved : goal.loop-left-preserved
loop-left-preserved c =
    let next = found c.loop-left.invariant (rw c.unwrap-cell.ensures at c.next.ensures.value) in
    let hold = told c.loop-left.invariant c.requires.lent_in_bounds.1 _ c.left_hold.ensures in
    elim c.match-unwrap_or.branch [
      | in-Some w ↦ rw (w.mem-is, w.left-is)
          (renewing.renew_by c.loop-left.invariant c.loop-left-test.true next hold (by_number c.left_hold.result (rw c.unwrap_or.ensures at w.in-Some.is)))
      | in_default w ↦ rw (w.mem-is, w.left-is)
          (by_none c.left_hold.result (rw c.unwrap_or.ensures at w.in_default.is)
          (renewing.renew_free c.loop-left.invariant c.loop-left-test.true next hold)
          (renewing.renew_bad c.loop-left.invariant c.loop-left-test.true next hold))
    ]

pub returns : goal.returns
returns c = renewing.renew_end c.loop-left.invariant c.loop-left-test.false
