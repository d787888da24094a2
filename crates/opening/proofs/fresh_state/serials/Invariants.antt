-- The pipes before `p` are marked.
use Rattle.std.proofs.Common.{◌≡◌, ◌≤◌, length}
use Rattle.opening.proofs.OpenedParts.{serials_to}
use Rattle.opening.proofs.fresh_state.serials.Given as goal

abbrev pub invariant-loop-p : goal.invariant-loop-p
invariant-loop-p l = (l.p ≤ length l.bytes) × (l.serial ≡ serials_to l.bytes l.p)
