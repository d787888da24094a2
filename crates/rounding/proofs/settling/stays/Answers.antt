-- A token that finishes the pipe that rounds.
use Rattle.std.proofs.Common.{◌≡◌, arith}
use Rattle.std.proofs.lemmas.Bool.Decides.{nat_tests}
use Rattle.rounding.proofs.laws.Settlings as laws
use Rattle.rounding.proofs.settling.stays.Goals as goal

pub returns : goal.returns
returns c =
    let here : c.args.pipe.0 ≡ c.args.r.pipe.0 = grind (arith, nat_tests, c.if-ne.ensures) in
    laws.stays_some _ _ _ _ (omega arith) (omega arith) here c.cell_of.ensures
