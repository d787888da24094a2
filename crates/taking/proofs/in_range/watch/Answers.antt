use Rattle.std.proofs.Common.{refl, ◌∙◌}
use Rattle.tables.proofs.code.CallLaws.{new_is}
use Rattle.tables.proofs.code.TakingLaws.{watch_is}
use Rattle.taking.proofs.Holds.{number_or}
use Rattle.taking.proofs.in_range.watch.Goals as goal

pub returns : goal.returns
returns c =
    rw (c.unwrap_or-2.ensures, c.unwrap_or.ensures)
    (number_or c.new_hold.result ∙ watch_is _ _ _ (c.new_hold.ensures ∙ new_is c.args.mem.now _ _ c.requires.0 c.requires.1) refl)
