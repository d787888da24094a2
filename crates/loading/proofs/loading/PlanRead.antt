-- What is known of a file that was read: its parts are the bytes of a valid plan.
use Rattle.std.specs.Prelude.{Ok, Err}
use mathlib.Core.Path.{◌≡◌, refl, sym, ap, subst, ◌∙◌}
use mathlib.Core.List.{List, [], ◌∷◌, map}
use Prim.Native.Nat.{ℕ, ◌+◌, ◌≤◌}
use native.Mathlib.Omega.{arith}
use lib.ListN.{length, take, drop}
use Rattle.fields.specs.Bytes.{Bytes}
use Rattle.plan.specs.Plan.{Plan, Record, Valid, ValidRecord, records_bytes, header_of, encode}
use Rattle.rules.specs.Lists.{Every}
use Rattle.vocabulary.specs.PipeKinds.{kind_of}
use Rattle.plan.specs.Records.{records_in}
use Rattle.plan.specs.Reading.{Outcome, accepted, refused, read_of, reading_of}
use Rattle.vocabulary.specs.declared.refusal.Refusal.{Refusal}
use Rattle.plan.specs.declared.trailer.Header.{Header}
use Rattle.plan.proofs.CompleteParts.{few_records, kinds_complete}
use Rattle.plan.proofs.Complete.{length_encode, record_part_lem, pipe_part_lem, records_read}
use Rattle.plan.proofs.Theorem.{read_exactly, accepted_exactly}
use Rattle.loading.specs.Layout.{records_fields, Spells}
use Rattle.loading.proofs.memory_laid.LayoutLaws.{length_fields}

-- valid records of fewer tokens are valid records of more
more_tokens : (few many : ℕ) → few ≤ many → (rs : List Record) → Every (ValidRecord few) rs → Every (ValidRecord many) rs
more_tokens few many h [] each = tt
more_tokens few many h (r ∷ rs) each = (
  record {
    entered = omega (arith, each.0.entered);
    some = each.0.some;
    most = each.0.most;
    ascending = each.0.ascending;
    others = each.0.others;
    fields = each.0.fields;
  },
  more_tokens few many h rs each.1,
)

-- the records of a valid plan fit the part of the memory that is theirs
pub fits : {p : Plan} → Valid p → length (records_fields p.records) ≤ 12288
fits {p} valid = omega (
  arith,
  length_fields p.records,
  valid.counts,
  valid.tokens,
  few_records p.tokens 0 p.records valid.records valid.ascending (omega arith),
)

pub record PlanRead (file : List ℕ) (h : Header) : Type 0 where
  pub plan : Plan
  pub valid : Valid plan
  pub reads : read_of file ≡ accepted plan
  pub header : header_of plan ≡ h
  pub records : records_in (take h.start file) ≡ plan.records
  pub spells : Spells (take h.start file) (records_in (take h.start file))
  pub kinds : map kind_of (take h.pipes (drop h.start file)) ≡ plan.kinds
  pub inside : h.start + h.pipes ≤ length file
  pub narrow : h.pipes ≤ 16
  pub few : h.lines ≤ 32

module _ (p : Plan) (v : Valid p) where
  plan_spells : Spells (records_bytes p.records) p.records
  plan_spells = record { bytes = refl; each = more_tokens p.tokens 4096 v.tokens p.records v.records; ascending = v.ascending; fits = fits v }

  plan_read_encoded : read_of (encode p) ≡ accepted p → PlanRead (encode p) (header_of p)
  plan_read_encoded e =
      let again = (records_read p v).1 in
      record {
        plan = p;
        valid = v;
        reads = e;
        header = refl;
        records = rw record_part_lem again;
        spells = rw (record_part_lem, again) plan_spells;
        kinds = rw pipe_part_lem (kinds_complete p.kinds).1;
        inside = omega (arith, length_encode p);
        narrow = v.pipes;
        few = v.lines;
      }

-- a file that was accepted with this header is that of a valid plan
pub plan_read : (file : List ℕ) → Bytes file → (header : Header) → reading_of (read_of file) ≡ Ok header → PlanRead file header
plan_read file bs header e =
    let (p, v, file_is, header_is) = (accepted_exactly file bs header).0 e in
    let read : read_of (encode p) ≡ accepted p = ap read_of (sym file_is) ∙ (read_exactly file bs p).1 (v, file_is) in
    subst (λ f. PlanRead f header) (sym file_is) (subst (PlanRead (encode p)) header_is (plan_read_encoded p v read))

-- a file that was accepted is that of a plan
pub accepted_read : (o : Outcome) (h : Header) → reading_of o ≡ Ok h → (p : Plan) × (o ≡ accepted p)
accepted_read (accepted p) h e = (p, refl)
accepted_read (refused r) h e = let z : ◌≡◌ {A = ℕ} 0 1 = cc in absurd (omega arith)

-- a file that was refused
pub refused_read : (o : Outcome) (why : Refusal) → reading_of o ≡ Err why → o ≡ refused why
refused_read (accepted p) why e = let z : ◌≡◌ {A = ℕ} 0 1 = cc in absurd (omega arith)
refused_read (refused r) why e = cc
