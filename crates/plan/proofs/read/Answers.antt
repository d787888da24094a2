-- `read` meets its contract.
use Rattle.std.proofs.Common.{◌≡◌, ◌≤◌, sym, ap, ◌∙◌, List, ℕ, arith, length, Ok, Err}
use Rattle.std.proofs.lemmas.Result.{err_from_is_err_and}
use borrow.Author.Tests.{leb-true}
use Rattle.fields.specs.Bytes.{Bytes}
use Rattle.vocabulary.specs.declared.refusal.Refusal.{Refusal}
use Rattle.vocabulary.specs.declared.refusal.Refusal.TheVariants.{FileSize}
use Rattle.plan.specs.Checks.{Check, passed}
use Rattle.plan.specs.declared.trailer.Header.{Header}
use Rattle.plan.specs.Trailer.{trailer_of, header_check}
use Rattle.plan.specs.Reading.{parts_check, check_of, read_of, reading_of}
use Rattle.plan.proofs.Facts.{told_by, header_passed}
use Rattle.plan.proofs.Ranges.{inside, outside}
use Rattle.plan.proofs.Sound.{header_is}
use Rattle.plan.proofs.Steps.{after_size}
use Rattle.plan.proofs.read.Goals as goal

module _ (file : List ℕ) where
  -- what is returned, by the outcome of the checks
  refused_by : {r : Refusal} → Err r ≡ check_of file → Err r ≡ reading_of (read_of file)
  unfolding read_of
  refused_by e = rw (← e)

  accepted_by : Bytes file → check_of file ≡ passed → Ok (trailer_of file) ≡ reading_of (read_of file)
  unfolding read_of
  accepted_by bs e = rw e (ap Ok (sym (header_is file bs e)))

  -- a size that is beyond its range
  size_told : (12 ≤ length file → length file ≤ 32796 → ⊥) → Err FileSize ≡ check_of file
  unfolding check_of
  size_told beyond = told_by _ (λ a. told_by _ (λ b. absurd (beyond (leb-true _ _ a) (leb-true _ _ b))))

  module _ (least : 12 ≤ length file) (most : length file ≤ 32796) {h : Header} (e : h ≡ trailer_of file) where
    -- all checks of the file answer what the header's check answers, or its parts'
    header_told : {r : Refusal} → Err r ≡ header_check h (length file) → Err r ≡ check_of file
    header_told f = sym (after_size file least most ∙ rw (← e, ← f))

    parts_told : {p : Check} → passed ≡ header_check h (length file) → p ≡ parts_check h file → p ≡ check_of file
    parts_told f g = sym (after_size file least most ∙ rw (← e, ← f) (sym g))

pub returns-then-not-contains : goal.returns-then-not-contains
returns-then-not-contains c =
    let e = c.new.ensures in
    refused_by c.args.file.now (size_told c.args.file.now (outside e.start e.end e.exhausted _ c.if-not-contains.ensures.value))

pub returns-in_err-check_header : goal.returns-in_err-check_header
returns-in_err-check_header c =
    let e = c.new.ensures in
    let (least, most) = inside e.start e.end e.exhausted (length c.args.file.now) c.if-not-contains.ensures.value in
    let (why, is, same) = err_from_is_err_and c.from_residual.result c.from_residual.ensures.1 in
    rw (is, same) (refused_by c.args.file.now (header_told c.args.file.now least most c.read_trailer-h.ensures c.in_err-check_header.ensures))

pub check_parts-requires : goal.check_parts-requires
check_parts-requires c = omega (arith, header_passed _ _ (sym c.in_ok-check_header.ensures))

pub returns-in_err-check_parts : goal.returns-in_err-check_parts
returns-in_err-check_parts c =
    let e = c.new.ensures in
    let (least, most) = inside e.start e.end e.exhausted (length c.args.file.now) c.if-not-contains.ensures.value in
    let (why, is, same) = err_from_is_err_and c.from_residual-in_err-check_parts.result c.from_residual-in_err-check_parts.ensures.1 in
    rw (is, same)
    (refused_by c.args.file.now (parts_told c.args.file.now least most c.read_trailer-h.ensures c.in_ok-check_header.ensures c.in_err-check_parts.ensures))

pub returns : goal.returns
returns c =
    let e = c.new.ensures in
    let (least, most) = inside e.start e.end e.exhausted (length c.args.file.now) c.if-not-contains.ensures.value in
    let told = parts_told c.args.file.now least most c.read_trailer-h.ensures c.in_ok-check_header.ensures c.in_ok-check_parts.ensures in
    ap Ok c.read_trailer-h.ensures ∙ accepted_by c.args.file.now (λ i. omega (arith, c.type_inv.file i)) (sym told)
