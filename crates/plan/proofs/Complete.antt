-- The file of a valid plan passes every check, and spells the plan.
use mathlib.Core.Path.{◌≡◌, refl, sym, ap, ◌∙◌}
use mathlib.Core.List.{List, [], ◌∷◌, ◌++◌, map}
use Prim.Native.Nat.{suc, ◌+◌, ◌-◌, ◌≤◌, ◌<◌}
use native.Mathlib.Omega.{arith}
use lib.ListN.{length, drop, length-append, length-map}
use lib.Seq.{take_at, drop_at, drop-drop}
use Rattle.fields.specs.Bytes.{field_bytes}
use Rattle.plan.specs.Checks.{passed, both}
use Rattle.plan.specs.Plan.{Plan, Valid, FirstSerial, records_bytes, header_of, trailer_fields, encode}
use Rattle.vocabulary.specs.PipeKinds.{byte_of}
use Rattle.rules.specs.Lists.{Every}
use Rattle.plan.specs.Trailer.{header_at, trailer_of, header_check}
use Rattle.vocabulary.specs.PipeKinds.{kind_of}
use Rattle.plan.specs.Records.{records_check, records_of}
use Rattle.plan.specs.Reading.{record_part, pipe_part, parts_check, check_of, plan_with, plan_of}
use Rattle.vocabulary.specs.declared.pipe_kind.PipeKind.{PipeKind}
use Rattle.plan.specs.declared.trailer.Header.{Header}
use Rattle.fields.proofs.Fields.{joined, length_field_bytes}
use Rattle.plan.proofs.Facts.{HeaderFacts, header_passes}
use Rattle.plan.proofs.Steps.{after_size}
use Rattle.plan.proofs.CompleteParts.{kinds_complete, pipes_complete, records_complete, few_records, length_records}

-- the trailer's bytes spell the header
header_read : (h : Header) → header_at (field_bytes (trailer_fields h)) ≡ h
unfolding field_bytes
header_read h = λ i. record {
  start = joined h.start i;
  pipes = joined h.pipes i;
  lines = joined h.lines i;
  tokens = joined h.tokens i;
  records = joined h.records i;
  edition = joined h.edition i;
}

-- there is a first pipe
some_pipe : (ks : List PipeKind) → FirstSerial ks → 1 ≤ length ks
some_pipe [] h = absurd h
some_pipe (k ∷ ks) h = omega arith

module _ (p : Plan) where
  abbrev h : Header
  h = header_of p

  pub length_encode : length (encode p) ≡ h.start + h.pipes + 12
  unfolding encode
  length_encode =
      omega (
        arith,
        length-append (records_bytes p.records) (map byte_of p.kinds ++ field_bytes (trailer_fields (header_of p))),
        length-append (map byte_of p.kinds) (field_bytes (trailer_fields (header_of p))),
        length-map p.kinds byte_of,
        length_field_bytes (trailer_fields (header_of p)),
      )

  -- the parts of the file
  pub record_part_lem : record_part h (encode p) ≡ records_bytes p.records
  unfolding encode
  record_part_lem = take_at (records_bytes p.records) _ _ refl

  rest_part : drop h.start (encode p) ≡ map byte_of p.kinds ++ field_bytes (trailer_fields h)
  unfolding encode
  rest_part = drop_at (records_bytes p.records) _ _ refl

  pub pipe_part_lem : pipe_part h (encode p) ≡ map byte_of p.kinds
  pipe_part_lem = rw rest_part (take_at (map byte_of p.kinds) _ _ (length-map p.kinds byte_of))

  -- its trailer
  trailer_read : trailer_of (encode p) ≡ h
  trailer_read =
      let end : length (encode p) - 12 ≡ h.start + h.pipes = omega (arith, length_encode) in
      let last : drop (length (encode p) - 12) (encode p) ≡ field_bytes (trailer_fields h) =
      ap (λ n. drop n (encode p)) end
      ∙ sym (drop-drop h.pipes h.start (encode p))
      ∙ ap (drop h.pipes) rest_part
      ∙ drop_at (map byte_of p.kinds) _ _ (length-map p.kinds byte_of) in
      ap header_at last ∙ header_read h

  module _ (v : Valid p) where
    -- it is not too long
    size : length (encode p) ≤ 32796
    size =
        omega (
          arith,
          length_encode,
          length_records p.records,
          v.counts,
          v.pipes,
          v.tokens,
          few_records p.tokens 0 p.records v.records v.ascending (omega arith),
        )

    -- the trailer's numbers are two-byte fields
    pub trailer_fits : Every (λ n. n < 65536) (trailer_fields (header_of p))
    trailer_fits =
        let few = few_records p.tokens 0 p.records v.records v.ascending (omega arith) in
        let f = v.pipes in
        (omega (arith, length_encode, size), (omega arith, (omega (arith, v.lines), (omega (arith, v.tokens), (omega (arith, v.tokens), (omega arith, tt))))))

    header_facts : HeaderFacts h (length (encode p))
    header_facts = record {
      parts = sym length_encode;
      edition = refl;
      some_pipe = some_pipe p.kinds v.first_serial;
      pipes = v.pipes;
      some_line = v.some_line;
      lines = v.lines;
      tokens = v.tokens;
    }

    pub records_read : (records_check h.tokens h.records (records_bytes p.records) ≡ passed)
        × (records_of (suc (length (records_bytes p.records))) (records_bytes p.records) ≡ p.records)
    records_read =
        records_complete p.tokens (length p.records) (length (records_bytes p.records)) 0 0 0 p.records
        v.records v.ascending (omega (arith, v.counts)) (omega arith) (omega (arith, length_records p.records))

    -- the plan's file passes
    pub check_is : check_of (encode p) ≡ passed
    unfolding parts_check
    check_is =
        after_size (encode p) (omega (arith, length_encode)) size
        ∙ ap (λ x. both (header_check x (length (encode p))) (parts_check x (encode p))) trailer_read
        ∙ rw (header_passes h (length (encode p)) header_facts, pipe_part_lem, record_part_lem, pipes_complete p.kinds v.first_serial)
        records_read.0

    -- and spells the plan
    pub plan_is : plan_of (encode p) ≡ p
    unfolding plan_with
    plan_is =
        let kinds : map kind_of (pipe_part h (encode p)) ≡ p.kinds = ap (map kind_of) pipe_part_lem ∙ (kinds_complete p.kinds).1 in
        let records : records_of (suc (length (record_part h (encode p)))) (record_part h (encode p)) ≡ p.records =
        ap (λ s. records_of (suc (length s)) s) record_part_lem ∙ records_read.1 in
        ap (λ x. plan_with x (encode p)) trailer_read
        ∙ (λ i. record { kinds = kinds i; lines = p.lines; tokens = p.tokens; records = records i })
