-- `layout::lay_out` meets its contract.
use Rattle.loading.proofs.memory_laid.LayingOut.{laid_by}
use Rattle.loading.proofs.layout.lay_out.Goals as goal

pub returns : goal.returns
returns c = laid_by _ c.args.mem.now _ c.requires.spells c.requires.in_bounds (c.fill.ensures.after (λ y e. e)) c.lay_records.ensures
