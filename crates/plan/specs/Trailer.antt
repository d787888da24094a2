-- The trailer: the last 12 bytes, and the checks 2 and 3.
use Rattle.std.specs.Prelude.{List, ℕ, ◌+◌, ◌-◌, leb, eqb, length, drop, Err}
use Rattle.fields.specs.Bytes.{field_at}
use Rattle.rules.specs.Lists.{must}
use Rattle.vocabulary.specs.declared.refusal.Refusal.TheVariants.{PartSizes, Limits}
use Rattle.plan.specs.Checks.{Check, passed}
use Rattle.plan.specs.declared.trailer.Header.{Header}

-- the six fields of 12 bytes
abbrev pub header_at : List ℕ → Header
header_at s = record {
  start = field_at s 0;
  pipes = field_at s 2;
  lines = field_at s 4;
  tokens = field_at s 6;
  records = field_at s 8;
  edition = field_at s 10;
}

-- the fields of the last 12 bytes
abbrev pub trailer_of : List ℕ → Header
trailer_of file = header_at (drop (length file - 12) file)

-- a trailer in a file of so many bytes: 2, then 3
unfoldable pub header_check : Header → ℕ → Check
header_check h size =
    must (eqb (h.start + h.pipes + 12) size) (Err PartSizes)
    (must (eqb h.edition 1) (Err Limits)
    (must (leb 1 h.pipes) (Err Limits)
    (must (leb h.pipes 16) (Err Limits)
    (must (leb 1 h.lines) (Err Limits)
    (must (leb h.lines 32) (Err Limits)
    (must (leb h.tokens 4096) (Err Limits)
    passed))))))
