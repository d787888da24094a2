-- A counter above 0 can fall.
use Rattle.std.proofs.Common.{◌≡◌, ◌-◌, ◌≤◌, ◌∙◌, arith}
use Rattle.engine.proofs.moves.FinishLaws as laws
use Rattle.engine.proofs.finishing.lowered.Goals as goal

pub returns-in_err-value : goal.returns-in_err-value
returns-in_err-value c = let low = c.in_err-value.ensures in c.from_residual.ensures ∙ laws.falls_none c.args.counter (omega (arith, low))

pub returns : goal.returns
returns c =
    let value_is : c.in_ok-value.value ≡ c.args.counter.value - 1 = c.in_ok-value.ensures.1 in
    let above : 1 ≤ c.args.counter.value = c.in_ok-value.ensures.0 in
    rw value_is (laws.falls_one c.args.counter (λ z. omega arith))
