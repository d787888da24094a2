use Rattle.std.proofs.Common.{◌≡◌, List, ℕ, ◌≤◌, length, Ok, ap, ◌∙◌, arith}
use Rattle.tables.specs.Releasing.{next_from}
use Rattle.tables.proofs.code.ScanLaws.{Next, next_of}
use Rattle.tables.proofs.code.Tallying as tallying
use Rattle.tables.proofs.code.Tallying.{Tallying}
use Rattle.tables.proofs.code.CallLaws.{left_is}
use Rattle.releasing.proofs.Holds.{one_error}
use Rattle.releasing.proofs.in_range.tally.Goals as goal
use Rattle.releasing.proofs.in_range.tally.Goals.{in-None, in-Some-2}

-- the next cell that watches the token, at a turn: those before it are passed
module _ {m : List ℕ} {held : ℕ} (whole : 32768 ≤ length m) (most : held ≤ 4096) {tokens d n k cell : ℕ} (inv : Tallying m tokens d held n k cell) {r : ℕ} (r-is : r ≡ next_from m d cell held) where
  found : Next m d cell held r
  found = next_of m d held (omega (arith, whole, most)) inv.upto r-is

  passed : Tallying m tokens d held n k r
  passed = tallying.tally_pass whole most inv found

pub loop-cell-init : goal.loop-cell-init
loop-cell-init c =
    tallying.tally_start c.requires.lent_in_bounds.0 c.requires.watcher_le_held.1 _ c.requires.watcher_le_held.0 c.requires.unwatched

pub returns-in_err-left_hold : goal.returns-in_err-left_hold
returns-in_err-left_hold c =
    let next = found c.requires.lent_in_bounds.0 c.requires.watcher_le_held.1 c.loop-cell.invariant c.in-Some.ensures.value in
    one_error c.from_residual.ensures.0
    ∙ tallying.tally_unsound c.requires.lent_in_bounds.0 c.requires.watcher_le_held.1
    (passed c.requires.lent_in_bounds.0 c.requires.watcher_le_held.1 c.loop-cell.invariant c.in-Some.ensures.value)
    c.in-Some.ensures.inside (next.hit c.in-Some.ensures.inside)
    (c.left_hold.ensures ∙ left_is c.args.mem.now _ _ _ c.requires.lent_in_bounds.0 c.requires.lent_in_bounds.1) c.in_err-left_hold.was

pub loop-cell-smaller : goal.loop-cell-smaller
loop-cell-smaller c =
    let next = found c.requires.lent_in_bounds.0 c.requires.watcher_le_held.1 c.loop-cell.invariant c.in-Some.ensures.value in
    omega (arith, next.from, c.in-Some.ensures.inside)

pub loop-cell-preserved : goal.loop-cell-preserved
loop-cell-preserved c =
    let next = found c.requires.lent_in_bounds.0 c.requires.watcher_le_held.1 c.loop-cell.invariant c.in-Some.ensures.value in
    let before = passed c.requires.lent_in_bounds.0 c.requires.watcher_le_held.1 c.loop-cell.invariant c.in-Some.ensures.value in
    let told = c.left_hold.ensures ∙ left_is c.args.mem.now _ _ _ c.requires.lent_in_bounds.0 c.requires.lent_in_bounds.1 in
    elim c.match-branch-2.branch [
      | in-None w ↦ rw w.tally-is
          (tallying.tally_woken c.requires.lent_in_bounds.0 c.requires.watcher_le_held.1 before c.in-Some.ensures.inside (next.hit c.in-Some.ensures.inside) told
          (c.in_ok-left_hold.was ∙ ap Ok w.in-None.is))
      | in-Some-2 w ↦ rw w.tally-is
          (tallying.tally_kept c.requires.lent_in_bounds.0 c.requires.watcher_le_held.1 before c.in-Some.ensures.inside (next.hit c.in-Some.ensures.inside) told
          (c.in_ok-left_hold.was ∙ ap Ok w.in-Some-2.is))
    ]

pub returns : goal.returns
returns c =
    tallying.tally_done c.requires.lent_in_bounds.0 c.requires.watcher_le_held.1
    (passed c.requires.lent_in_bounds.0 c.requires.watcher_le_held.1 c.loop-cell.invariant c.in_default.ensures.value) (omega arith)
