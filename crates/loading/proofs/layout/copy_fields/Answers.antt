-- `layout::copy_fields` meets its contract.
use Rattle.std.proofs.Common.{◌≡◌, ◌<◌, ◌+◌, ◌∷◌, ◌∙◌, add-one, add_assoc, arith, length, get_or, drop}
use lib.ListN.{drop_of_length-le}
use lib.Seq.{drop-cons}
use Rattle.fields.specs.Bytes.{fields}
use Rattle.fields.proofs.Fields.{fields_count, field_of}
use Rattle.tables.proofs.memory.Cells.{sets_store, sets_none}
use Rattle.loading.proofs.layout.copy_fields.Goals as goal

pub loop-i-preserved : goal.loop-i-preserved
loop-i-preserved c =
    let s = c.args.part.now in
    let i = c.loop-i.i in
    let count = fields_count s c.as_chunks.ensures.front in
    let more : i < length (fields s) = omega arith in
    let first : drop i (fields s) ≡ get_or (fields s) i 0 ∷ drop (i + 1) (fields s) = rw (add-one i) (drop-cons (fields s) i 0 more) in
    let value = c.from_le_bytes.ensures ∙ field_of s c.as_chunks.ensures.front i c.loop-i-test.true in
    rw (← add_assoc c.args.from i 1) (sets_store c.loop-i.mem (c.args.from + i) c.loop-i.invariant first value)

pub returns : goal.returns
returns c =
    let s = c.args.part.now in
    let count = fields_count s c.as_chunks.ensures.front in
    sets_none c.loop-i.mem (c.args.from + c.loop-i.i) c.loop-i.invariant (drop_of_length-le (fields s) (omega arith))
