-- A record whose token, count and size are right, where the running total is too large.
use Rattle.std.proofs.Common.{◌≡◌, List, ℕ, ◌+◌, ◌*◌, ◌≤◌, ◌<◌, arith, length, Err}
use borrow.Author.Tests.{lt-leb}
use Rattle.fields.specs.Bytes.{field_in}
use Rattle.fields.proofs.Fields.{field_inside}
use Rattle.vocabulary.specs.declared.refusal.Refusal.TheVariants.{TotalCount}
use Rattle.plan.specs.Records.{token_of, count_of, record_check}
use Rattle.plan.proofs.Steps.{record_laid}

pub total_over : (tokens floor before : ℕ) (s : List ℕ) (token count : ℕ) → 4 ≤ length s → token ≡ field_in s 0 → count ≡ field_in s 2 →
    floor ≤ token → token < tokens → 1 ≤ count → count ≤ 16 → 4 + 2 * count ≤ length s → 8192 < before + count →
    Err TotalCount ≡ record_check tokens floor before s
total_over tokens floor before s token count begun t n a b c d e over =
    let token_is : token ≡ token_of s = field_inside s 0 (omega arith) t in
    let count_is : count ≡ count_of s = field_inside s 2 (omega arith) n in
    rw (
      record_laid tokens floor before s begun (omega arith) (omega arith) (omega arith) (omega arith) (omega arith),
      lt-leb (before + count_of s) 8192 (omega arith),
    )
