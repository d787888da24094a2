-- `records::check_numbers` meets its contract.
use Rattle.std.proofs.Common.{◌≡◌, sym, ◌∙◌, List, ℕ, ◌+◌, ◌<◌, ◌≤◌, not, leb, eqb, arith, length, get_or, drop, Err}
use Rattle.fields.specs.Bytes.{fields}
use Rattle.fields.proofs.Fields.{fields_count, field_of}
use Rattle.rules.specs.Lists.{must}
use Rattle.rules.proofs.lists.Tests.{tests}
use Rattle.vocabulary.specs.declared.refusal.Refusal.TheVariants.{RecordLayout, ListsItself}
use Rattle.plan.specs.Checks.{Check}
use Rattle.plan.specs.Records.{numbers_from}
use Rattle.plan.proofs.Steps.{numbers_turn, numbers_end}
use Rattle.plan.proofs.records.check_numbers.Goals as goal

-- in a turn: the check of the numbers is that of this one, and then of those after it
turn_is : (ns : List ℕ) (i token floor : ℕ) {n : ℕ} {p : Check} → i < length ns → p ≡ numbers_from token floor (drop i ns) → n ≡ get_or ns i 0 →
    p ≡ must (leb floor n) (Err RecordLayout) (must (not (eqb n token)) (Err ListsItself) (numbers_from token (n + 1) (drop (i + 1) ns)))
turn_is ns i token floor h e f = rw (e, numbers_turn ns i token floor h, ← f)

pub returns-then-from-floor : goal.returns-then-from-floor
returns-then-from-floor c =
    let s = c.args.numbers.now in
    let count = fields_count s c.as_chunks.ensures.front in
    let n = c.from_le_bytes-n.ensures ∙ field_of s c.as_chunks.ensures.front c.loop-number.number-index c.loop-number-test.true in
    let low : c.from_le_bytes-n.result < c.loop-number.floor = omega arith in
    rw (turn_is (fields s) c.loop-number.number-index _ _ (omega arith) c.loop-number.invariant.1 n) (search tests)

pub returns-then-n-token : goal.returns-then-n-token
returns-then-n-token c =
    let s = c.args.numbers.now in
    let count = fields_count s c.as_chunks.ensures.front in
    let n = c.from_le_bytes-n.ensures ∙ field_of s c.as_chunks.ensures.front c.loop-number.number-index c.loop-number-test.true in
    let up : c.loop-number.floor ≤ c.from_le_bytes-n.result = omega arith in
    rw (turn_is (fields s) c.loop-number.number-index _ _ (omega arith) c.loop-number.invariant.1 n) (search tests)

pub loop-number-preserved : goal.loop-number-preserved
loop-number-preserved c =
    let s = c.args.numbers.now in
    let count = fields_count s c.as_chunks.ensures.front in
    let n = c.from_le_bytes-n.ensures ∙ field_of s c.as_chunks.ensures.front c.loop-number.number-index c.loop-number-test.true in
    let up : c.loop-number.floor ≤ c.from_le_bytes-n.result = omega arith in (
      omega arith,
      rw (turn_is (fields s) c.loop-number.number-index _ _ (omega arith) c.loop-number.invariant.1 n, c.from-floor.ensures) (sym (search tests)),
    )

pub returns : goal.returns
returns c =
    let s = c.args.numbers.now in
    let count = fields_count s c.as_chunks.ensures.front in
    sym (c.loop-number.invariant.1 ∙ numbers_end (fields s) c.loop-number.number-index _ _ (omega arith))
