-- `open_rounded` meets its contract: each return is a case of the opening.
use Rattle.std.proofs.Common.{arith}
use Rattle.rounded_opening.proofs.Cases as laws
use Rattle.rounded_opening.proofs.open_rounded.Goals as goal

pub returns-in-Err : goal.returns-in-Err
returns-in-Err c =
    let gives = laws.refuses _ _ _ _ _ _ _ c.preview-first.ensures c.in-Err.is c.refused.ensures in
    record { answer = gives.0; memory = gives.1.0; left = gives.1.1 }

pub returns-in-Err-open : goal.returns-in-Err-open
returns-in-Err-open c =
    let gives = laws.turned _ _ _ _ _ _ _ c.preview-first.ensures (λ i. omega (arith, c.type_inv.file i)) c.in_default.is c.open.ensures.answer c.open.ensures.left
    c.in-Err-open.is c.refused-in-Err-open.ensures in
    record { answer = gives.0; memory = gives.1.0; left = gives.1.1 }

pub returns-in-Ok : goal.returns-in-Ok
returns-in-Ok c =
    let gives = laws.accepts _ _ _ _ _ _ _ c.preview-first.ensures (λ i. omega (arith, c.type_inv.file i)) c.in_default.is c.open.ensures.answer c.open.ensures.left _
    c.in-Ok.is c.open-opened.ensures.answer c.open-opened.ensures.memory in
    record { answer = gives.0; memory = gives.1.0; left = gives.1.1 }
