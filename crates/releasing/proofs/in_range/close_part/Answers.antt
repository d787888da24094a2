use Rattle.std.proofs.Common.{◌≡◌, List, ℕ, ◌+◌, ◌-◌, ◌≤◌, ◌∙◌, length, arith}
use Rattle.tables.specs.Releasing.{next_from}
use Rattle.tables.proofs.code.ScanLaws.{Next, next_of}
use Rattle.tables.proofs.code.Closing as closing
use Rattle.tables.proofs.code.Closing.{Closing}
use Rattle.std.specs.List.{copy_within}
use Rattle.std.proofs.lemmas.List.Edits.{sets}
use Rattle.std.proofs.Math.Seq.{slice}
use Rattle.releasing.proofs.Parts.{copied}
use Rattle.releasing.proofs.Scanning.{some_is}
use Rattle.releasing.proofs.in_range.close_part.Goals as goal

-- the next cell that watches the token, at a turn
module _ {m₀ : List ℕ} {base d held : ℕ} {m : List ℕ} {at cell n : ℕ} (inv : Closing m₀ base d held m at cell n) {r : ℕ} (r-is : r ≡ next_from m d cell held) where
  found : Next m d cell held r
  found = next_of m d held (omega (arith, closing.close_whole inv, inv.most)) inv.upto r-is

  -- what is asked of a move of those before it
  within : (at ≤ base + cell) × ((base + cell ≤ base + r) × ((base + r ≤ 32768) × (32768 ≤ length m)))
  within = closing.close_within inv r found.from found.upto

-- the numbers moved
moved : (m : List ℕ) (a b to : ℕ) {m' : List ℕ} → (to ≤ a) × ((a ≤ b) × ((b ≤ 32768) × (32768 ≤ length m))) → m' ≡ copy_within m a b to → m' ≡ sets m to (slice a b m)
moved m a b to w e = e ∙ copied m a b to w.1.0 (omega (arith, w.1.1.0, w.1.1.1)) w.0

pub loop-init : goal.loop-init
loop-init c =
    let all : c.args.n - 0 ≡ c.args.n = omega arith in
    rw all
    (closing.close_start c.args.mem.now c.args.part c.args.past c.args.held c.args.watcher c.args.n c.requires.lent_in_bounds.0 c.requires.lent_in_bounds.1.1
    c.requires.part_le_watches_at.0 c.requires.lent_in_bounds.1.0 c.requires.unwatched c.requires.part_le_watches_at.1)

pub unwrap-next-requires : goal.unwrap-next-requires
unwrap-next-requires c = some_is _ (closing.close_inside c.loop.invariant (omega (arith, c.loop-test.true)) (found c.loop.invariant c.next.ensures.value))

pub copy_within-requires-clause-start_le_end : goal.copy_within-requires-clause-start_le_end
copy_within-requires-clause-start_le_end c = (within c.loop.invariant (rw c.unwrap-next.ensures at c.next.ensures.value)).1.0

pub overflow_sub-at : goal.overflow_sub-at
overflow_sub-at c = (found c.loop.invariant (rw c.unwrap-next.ensures at c.next.ensures.value)).from

pub loop-preserved : goal.loop-preserved
loop-preserved c =
    let less : c.args.n - (c.loop.counter + 1) ≡ c.args.n - c.loop.counter - 1 = omega arith in
    rw less
    (closing.close_one c.loop.invariant (omega (arith, c.loop-test.true)) (found c.loop.invariant (rw c.unwrap-next.ensures at c.next.ensures.value))
    (moved _ _ _ _ (within c.loop.invariant (rw c.unwrap-next.ensures at c.next.ensures.value)) c.copy_within.ensures.after))

pub returns : goal.returns
returns c =
    closing.close_end c.loop.invariant (omega (arith, c.loop-test.false))
    (moved _ _ _ _ (closing.close_within c.loop.invariant c.args.held c.loop.invariant.upto (omega arith)) c.copy_within-2.ensures.after)
