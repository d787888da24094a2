-- A plan, when it is valid, and its file (01, "The plan file").
use Rattle.std.specs.Prelude.{◌≡◌, List, [], ◌∷◌, ◌++◌, map, ℕ, suc, ◌+◌, ◌≤◌, ◌<◌, length}
use Rattle.rules.specs.Lists.{Every}
use Rattle.vocabulary.specs.PipeKinds.{byte_of}
use Rattle.fields.specs.Bytes.{field_bytes}
use Rattle.vocabulary.specs.declared.pipe_kind.PipeKind.{PipeKind}
use Rattle.vocabulary.specs.declared.pipe_kind.PipeKind.TheVariants.{Serial}
use Rattle.plan.specs.declared.trailer.Header.{Header}

-- a deferral record: a token and the numbers that it defers to
pub record Record : Type 0 where
  pub token : ℕ
  pub numbers : List ℕ

-- a plan: the kinds of its pipes, L, N and the records
pub record Plan : Type 0 where
  pub kinds : List PipeKind
  pub lines : ℕ
  pub tokens : ℕ
  pub records : List Record

-- strictly ascending, from a floor on
abbrev pub AscendingFrom : ℕ → List ℕ → Type 0
AscendingFrom floor [] = Unit {0}
AscendingFrom floor (n ∷ ns) = (floor ≤ n) × AscendingFrom (suc n) ns

-- how many numbers the records list together
unfoldable pub total : List Record → ℕ
total [] = 0
total (r ∷ rs) = length r.numbers + total rs

-- a record of a plan with so many tokens
pub record ValidRecord (tokens : ℕ) (r : Record) : Type 0 where
  pub entered : r.token < tokens
  pub some : 1 ≤ length r.numbers
  pub most : length r.numbers ≤ 16
  pub ascending : AscendingFrom 0 r.numbers
  pub others : Every (λ n. n ≡ r.token → ⊥) r.numbers
  pub fields : Every (λ n. n < 65536) r.numbers

-- pipe 0 is there, and serial
abbrev pub FirstSerial : List PipeKind → Type 0
FirstSerial [] = ⊥
FirstSerial (k ∷ ks) = k ≡ Serial

-- the conditions of "The plan file"
pub record Valid (p : Plan) : Type 0 where
  pub first_serial : FirstSerial p.kinds
  pub pipes : length p.kinds ≤ 16
  pub some_line : 1 ≤ p.lines
  pub lines : p.lines ≤ 32
  pub tokens : p.tokens ≤ 4096
  pub records : Every (ValidRecord p.tokens) p.records
  pub ascending : AscendingFrom 0 (map (λ r. r.token) p.records)
  pub counts : total p.records ≤ 8192

-- a record's bytes: token, count, numbers
abbrev pub record_bytes : Record → List ℕ
record_bytes r = field_bytes (r.token ∷ length r.numbers ∷ r.numbers)

-- the bytes of all records
unfoldable pub records_bytes : List Record → List ℕ
records_bytes [] = []
records_bytes (r ∷ rs) = record_bytes r ++ records_bytes rs

-- what the trailer says of a plan
abbrev pub header_of : Plan → Header
header_of p = record {
  start = length (records_bytes p.records);
  pipes = length p.kinds;
  lines = p.lines;
  tokens = p.tokens;
  records = length p.records;
  edition = 1;
}

-- the trailer's fields, in their order
abbrev pub trailer_fields : Header → List ℕ
trailer_fields h = h.start ∷ h.pipes ∷ h.lines ∷ h.tokens ∷ h.records ∷ h.edition ∷ []

-- the plan's file: records, pipe bytes, trailer
unfoldable pub encode : Plan → List ℕ
encode p = records_bytes p.records ++ (map byte_of p.kinds ++ field_bytes (trailer_fields (header_of p)))
