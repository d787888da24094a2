-- To store all fields is to store those from `i` on from `from + i` on.
use Rattle.std.proofs.Common.{◌≡◌, ◌+◌, drop}
use Rattle.std.proofs.lemmas.List.Edits.{sets}
use Rattle.fields.specs.Bytes.{fields}
use Rattle.loading.proofs.layout.copy_fields.Given as goal

abbrev pub invariant-loop-i : goal.invariant-loop-i
invariant-loop-i l = sets l.fn.mem l.from (fields l.part) ≡ sets l.mem (l.from + l.i) (drop l.i (fields l.part))
