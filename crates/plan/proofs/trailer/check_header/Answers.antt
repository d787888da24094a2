-- `trailer::check_header` meets its contract.
use Rattle.std.proofs.Common.{◌≡◌, ◌+◌, sym, arith}
use Rattle.plan.specs.Trailer.{header_check}
use Rattle.rules.proofs.lists.Tests.{tests}
use Rattle.plan.proofs.Facts.{header_passes, header_refused}
use Rattle.plan.proofs.Ranges.{inside, outside}
use Rattle.plan.proofs.trailer.check_header.Goals as goal
use Rattle.plan.proofs.trailer.check_header.Goals.{else-h-eq1-via-then-h-eq1+then-contains+then-contains-2+else-h-le4096, else-h-eq1-via-then-h-eq1+then-contains+else-contains-2, else-h-eq1-via-then-h-eq1+else-contains, else-h-eq1-via-else-h-eq1}

pub returns-then-from-size : goal.returns-then-from-size
unfolding header_check
returns-then-from-size c =
    let other : c.args.h.start + c.args.h.pipes + 12 ≡ c.args.size → ⊥ = omega arith in
    search tests depth 12

pub returns-then-h-le4096 : goal.returns-then-h-le4096
returns-then-h-le4096 c =
    let (p, q) = inside c.new.ensures.start c.new.ensures.end c.new.ensures.exhausted c.args.h.pipes c.if-contains.ensures.value in
    let (k, l) = inside c.new-then-contains.ensures.start c.new-then-contains.ensures.end c.new-then-contains.ensures.exhausted c.args.h.lines c.if-contains-2.ensures.value in
    sym (header_passes _ _ (record { parts = omega arith; edition = omega arith; some_pipe = p; pipes = q; some_line = k; lines = l; tokens = omega arith }))

pub returns-else-h-eq1 : goal.returns-else-h-eq1
returns-else-h-eq1 c = header_refused _ _ (omega arith) (λ f. elim c.else-h-eq1.branch [
  | else-h-eq1-via-then-h-eq1+then-contains+then-contains-2+else-h-le4096 w ↦ omega arith
  | else-h-eq1-via-then-h-eq1+then-contains+else-contains-2 w ↦
      let e = w.new-then-contains.ensures in outside e.start e.end e.exhausted c.args.h.lines w.if-contains-2.ensures.value f.some_line f.lines
  | else-h-eq1-via-then-h-eq1+else-contains w ↦
      let e = w.new.ensures in outside e.start e.end e.exhausted c.args.h.pipes w.if-contains.ensures.value f.some_pipe f.pipes
  | else-h-eq1-via-else-h-eq1 w ↦ omega arith
])
