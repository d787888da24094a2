-- `begin_loaded` meets its contract.
use Rattle.std.proofs.Common.{sym, ◌∙◌}
use Rattle.opening.proofs.OpenCases.{refuses, opens}
use Rattle.opening.proofs.begin_loaded.Goals as goal

pub returns-in-Ok : goal.returns-in-Ok
returns-in-Ok c m told = opens _ _ m (sym c.in-Ok.is ∙ told) (c.begin.ensures m)

pub returns-in-Err : goal.returns-in-Err
returns-in-Err c m told = refuses _ _ m (sym c.in-Err.is ∙ told) c.refused.ensures
