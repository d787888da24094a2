-- `trailer::read_trailer` meets its contract: each field is read from the part that starts 12 bytes before the end.
use Rattle.std.proofs.Common.{◌≡◌, List, ℕ, ◌-◌, ◌≤◌, arith, length, take, drop, length-drop}
use Rattle.fields.specs.Bytes.{field_at, field_in}
use Rattle.fields.proofs.Fields.{field_inside}
use Rattle.std.proofs.lemmas.List.{take_rest}
use Rattle.plan.proofs.trailer.read_trailer.Goals as goal

-- a field that was read from the part is the trailer's
read_in : (file : List ℕ) (i : ℕ) {r : ℕ} → 12 ≤ length file → i ≤ 10 →
    r ≡ field_in (take (length file - (length file - 12)) (drop (length file - 12) file)) i → r ≡ field_at (drop (length file - 12) file) i
read_in file i h l e = field_inside _ i (simp length-drop (omega arith)) (rw take_rest at e)

pub returns : goal.returns
returns c =
    let file = c.args.file.now in
    rw (
      read_in file 10 c.requires (omega arith) c.field_or_zero-6.ensures,
      read_in file 8 c.requires (omega arith) c.field_or_zero-5.ensures,
      read_in file 6 c.requires (omega arith) c.field_or_zero-4.ensures,
      read_in file 4 c.requires (omega arith) c.field_or_zero-3.ensures,
      read_in file 2 c.requires (omega arith) c.field_or_zero-2.ensures,
      read_in file 0 c.requires (omega arith) c.field_or_zero.ensures,
    )
