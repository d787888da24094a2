-- A plan is read exactly if the layout admits it, and each plan has one file.
use Rattle.std.specs.Prelude.{Ok, Err}
use mathlib.Core.Path.{◌≡◌, refl, sym, ap, subst, ◌∙◌}
use mathlib.Core.Logic.{◌↔◌}
use mathlib.Core.List.{List, [], ◌∷◌, ◌++◌, map}
use Prim.Native.Nat.{ℕ, zero, suc, ◌≤◌}
use native.Mathlib.Omega.{arith}
use lib.ListN.{length}
use Rattle.fields.specs.Bytes.{Bytes}
use Rattle.plan.specs.Checks.{Check, passed}
use Rattle.plan.specs.Plan.{Plan, Record, Valid, ValidRecord, record_bytes, records_bytes, header_of, trailer_fields, encode}
use Rattle.vocabulary.specs.PipeKinds.{byte_of}
use Rattle.rules.specs.Lists.{Every}
use Rattle.plan.specs.Reading.{check_of, plan_of, Outcome, accepted, refused, outcome, read_of, reading_of}
use Rattle.vocabulary.specs.declared.pipe_kind.PipeKind.{PipeKind}
use Rattle.vocabulary.specs.declared.pipe_kind.PipeKind.TheVariants.{Serial, Parallel}
use Rattle.plan.specs.declared.trailer.Header.{Header}
use Rattle.fields.proofs.Fields.{field_bytes_bytes}
use Rattle.plan.proofs.Sound.{encode_is, valid_is}
use Rattle.plan.proofs.Complete.{check_is, plan_is, trailer_fits}

-- what an accepting outcome tells
accepts : (c : Check) (q p : Plan) → outcome c q ≡ accepted p → (c ≡ passed) × (q ≡ p)
accepts (Ok ok) q p e = (refl, cc)
accepts (Err r) q p e = let z : ◌≡◌ {A = ℕ} 0 1 = cc in absurd (omega arith)

-- bytes are read as a plan exactly if they are the file of that plan, and it is valid
pub read_exactly : (file : List ℕ) → Bytes file → (p : Plan) → (read_of file ≡ accepted p) ↔ (Valid p × (file ≡ encode p))
unfolding read_of
read_exactly file bs p = (only_if, λ (v, e). if_valid v e)
  where
    only_if : read_of file ≡ accepted p → Valid p × (file ≡ encode p)
    only_if e =
        let (passed, same) = accepts (check_of file) (plan_of file) p e in
        (subst Valid same (valid_is file bs passed), sym (encode_is file bs passed) ∙ ap encode same)

    if_valid : Valid p → file ≡ encode p → read_of file ≡ accepted p
    if_valid v e = rw (e, check_is p v, plan_is p v)

-- so the code returns a header exactly if the file is that of a valid plan with this header
pub accepted_exactly : (file : List ℕ) → Bytes file → (h : Header) →
    (reading_of (read_of file) ≡ Ok h) ↔ ((p : Plan) × Valid p × (file ≡ encode p) × (header_of p ≡ h))
accepted_exactly file bs h = (λ e. only_if (read_of file) refl e, λ (p, v, e, same). rw ((read_exactly file bs p).1 (v, e)) (ap Ok same))
  where
    only_if : (o : Outcome) → read_of file ≡ o → reading_of o ≡ Ok h → (p : Plan) × Valid p × (file ≡ encode p) × (header_of p ≡ h)
    only_if (accepted p) e same = let (v, f) = (read_exactly file bs p).0 e in (p, v, f, cc)
    only_if (refused r) e same = let z : ◌≡◌ {A = ℕ} 0 1 = cc in absurd (omega arith)

-- two valid plans with one file are one plan
pub one_plan : (p q : Plan) → Valid p → Valid q → encode p ≡ encode q → p ≡ q
one_plan p q v w e = sym (plan_is p v) ∙ ap plan_of e ∙ plan_is q w

-- a valid plan's file is made of bytes
append_bytes : (a b : List ℕ) → Bytes a → Bytes b → Bytes (a ++ b)
append_bytes [] b p q i = q i
append_bytes (x ∷ a) b p q zero = p 0
append_bytes (x ∷ a) b p q (suc i) = append_bytes a b (λ j. p (suc j)) q i

kinds_bytes : (ks : List PipeKind) → Bytes (map byte_of ks)
kinds_bytes [] i = omega arith
kinds_bytes (Serial ∷ ks) zero = omega arith
kinds_bytes (Parallel ∷ ks) zero = omega arith
kinds_bytes (Serial ∷ ks) (suc i) = kinds_bytes ks i
kinds_bytes (Parallel ∷ ks) (suc i) = kinds_bytes ks i

records_bytes_lem : (tokens : ℕ) (rs : List Record) → tokens ≤ 4096 → Every (ValidRecord tokens) rs → Bytes (records_bytes rs)
unfolding records_bytes
records_bytes_lem tokens [] h each = λ i. omega arith
records_bytes_lem tokens (r ∷ rs) h each =
    append_bytes (record_bytes r) (records_bytes rs)
    (field_bytes_bytes (r.token ∷ length r.numbers ∷ r.numbers)
    (omega (arith, each.0.entered), (omega (arith, each.0.most), each.0.fields)))
    (records_bytes_lem tokens rs h each.1)

pub file_bytes : (p : Plan) → Valid p → Bytes (encode p)
unfolding encode
file_bytes p v =
    append_bytes (records_bytes p.records) _ (records_bytes_lem p.tokens p.records v.tokens v.records)
    (append_bytes (map byte_of p.kinds) _ (kinds_bytes p.kinds)
    (field_bytes_bytes (trailer_fields (header_of p)) (trailer_fits p v)))
