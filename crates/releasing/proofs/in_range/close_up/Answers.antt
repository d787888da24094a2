use Rattle.std.proofs.Common.{◌≡◌, ◌+◌, ◌-◌, ◌≤◌, length, ap, ◌∙◌, arith}
use Rattle.std.specs.Prelude.{replicate}
use lib.Seq.{length-sets}
use Rattle.tables.proofs.code.Moves as moves
use Rattle.releasing.proofs.Parts.{filled}
use Rattle.releasing.proofs.in_range.close_up.Goals as goal

pub close_part-requires-2-clause-part_le_watches_at : goal.close_part-requires-2-clause-part_le_watches_at
close_part-requires-2-clause-part_le_watches_at c = (
  omega arith,
  moves.closed_count c.args.mem.now c.args.past c.args.held c.requires.lent_in_bounds.0 c.requires.lent_in_bounds.1.1 c.close_part.ensures c.requires.n_value,
)

pub close_part-requires-2-clause-unwatched : goal.close_part-requires-2-clause-unwatched
close_part-requires-2-clause-unwatched c =
    moves.closed_unwatched c.args.mem.now c.args.past c.args.held c.requires.lent_in_bounds.0 c.requires.lent_in_bounds.1.1 c.close_part.ensures
    c.requires.lent_in_bounds.1.0 c.requires.unwatched

-- not more watch the token than there are
pub overflow_sub-staying : goal.overflow_sub-staying
overflow_sub-staying c =
    rw c.from.ensures
    (moves.watchers_most c.args.mem.now c.args.past c.args.held c.requires.lent_in_bounds.0 c.requires.lent_in_bounds.1.1 c.requires.n_value)

pub returns : goal.returns
returns c =
    let stays : c.args.held - c.from.result ≤ c.args.held = omega arith in
    let long : length c.close_part-2.new.mem ≡ length c.args.mem.now = omega arith in
    let cleared = filled c.close_part-2.new.mem 0 (20480 + (c.args.held - c.from.result)) (20480 + c.args.held) (omega arith) (omega (arith, c.requires.lent_in_bounds.0, c.requires.lent_in_bounds.1.1)) (c.fill.ensures.after (λ y e. e)) in
    moves.closed_up c.args.mem.now c.args.past c.args.held c.requires.lent_in_bounds.0 c.requires.lent_in_bounds.1.1 c.close_part.ensures
    c.requires.n_value (ap (λ k. c.args.held - k) c.from.ensures) c.close_part-2.ensures cleared
    (filled _ 0 (24576 + (c.args.held - c.from.result)) (24576 + c.args.held) (omega arith)
    (omega (
      arith,
      ap length cleared ∙ length-sets c.close_part-2.new.mem (20480 + (c.args.held - c.from.result))
          (replicate (20480 + c.args.held - (20480 + (c.args.held - c.from.result))) 0),
      long,
      c.requires.lent_in_bounds.0,
      c.requires.lent_in_bounds.1.1,
    )) (c.fill-2.ensures.after (λ y e. e)))
