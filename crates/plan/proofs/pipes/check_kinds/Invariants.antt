-- The check of all kinds is that of those from `byte-index` on.
use Rattle.std.proofs.Common.{◌≡◌, drop}
use Rattle.plan.specs.Pipes.{kinds_check}
use Rattle.plan.proofs.pipes.check_kinds.Given as goal

abbrev pub invariant-loop-byte : goal.invariant-loop-byte
invariant-loop-byte l = kinds_check l.bytes ≡ kinds_check (drop l.byte-index l.bytes)
