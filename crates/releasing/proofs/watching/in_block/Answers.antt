use Rattle.std.proofs.Common.{◌∙◌, ap}
use Rattle.std.proofs.lemmas.Slice.{between_is}
use Rattle.rules.specs.Lists.{has}
use Rattle.releasing.proofs.Scanning.{block_next, block_end}
use Rattle.releasing.proofs.watching.in_block.Goals as goal

pub loop-watch-preserved : goal.loop-watch-preserved
loop-watch-preserved c = block_next _ c.args.number c.loop-watch.watch-index c.loop-watch.found c.loop-watch.invariant c.loop-watch-test.true

pub returns : goal.returns
returns c =
    block_end _ c.args.number c.loop-watch.watch-index c.loop-watch.found c.loop-watch.invariant c.loop-watch-test.false ∙ ap (λ ws. has ws c.args.number) (between_is c.args.mem.now c.args.at _)
