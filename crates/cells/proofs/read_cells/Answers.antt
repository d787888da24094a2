-- `read_cells` meets its contract.
use Rattle.std.proofs.Common.{◌≡◌, ap, ◌∙◌, arith, set, get_or, length-take}
use Rattle.cells.specs.Cells.{cells_in}
use Rattle.cells.proofs.Cells.{cells_count, cell_is, store_more, store_all}
use Rattle.cells.proofs.read_cells.Goals as goal

pub loop-i-preserved : goal.loop-i-preserved
loop-i-preserved c =
    let s = c.args.bytes.now in
    let l = c.loop-i in
    let count = cells_count s c.as_chunks.ensures.front in
    let short = length-take c.min-count.result c.as_chunks.result.0.now in
    let value : c.from_le_bytes.result ≡ get_or (cells_in s) l.i 0 = c.from_le_bytes.ensures ∙ cell_is s c.as_chunks.ensures.front _ l.i c.loop-i-test.true in
    ap (set l.cells l.i) value ∙ store_more (cells_in s) c.args.cells.now l.i l.invariant (omega (arith, short)) (omega (arith, short))

pub returns-clause-counts : goal.returns-clause-counts
returns-clause-counts c =
    let count = cells_count c.args.bytes.now c.as_chunks.ensures.front in
    simp length-take (omega arith)

pub returns-clause-stores : goal.returns-clause-stores
returns-clause-stores c =
    let s = c.args.bytes.now in
    let count = cells_count s c.as_chunks.ensures.front in
    let short = length-take c.min-count.result c.as_chunks.result.0.now in
    let all : c.loop-i.i ≡ c.min-count.result = omega (arith, short) in
    rw all at (store_all (cells_in s) c.args.cells.now c.loop-i.i c.loop-i.invariant (omega (arith, short)))
