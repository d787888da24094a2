-- A journal as a file holds it (docs/CONSOLE.md): its records, one after another.
use Rattle.std.specs.Prelude.{List, [], ◌∷◌, ℕ, zero, suc, ◌/◌, length, get_or, drop}
use Rattle.vocabulary.specs.declared.event.EventRecord.{EventRecord}
use Rattle.fields.specs.Bytes.{field_at}

-- the record that bytes begin with: "kind (the program's letter as a byte), line, pipe, token and place", and the worker "as a sixth field";
-- two bytes each but for the kind, low byte first
abbrev pub record_in : List ℕ → EventRecord
record_in s = record { kind = get_or s 0 0; line = field_at s 1; pipe = field_at s 3; token = field_at s 5; place = field_at s 7; worker = field_at s 9 }

-- so many records, 11 bytes each
unfoldable pub records : ℕ → List ℕ → List EventRecord
records zero s = []
records (suc n) s = record_in s ∷ records n (drop 11 s)

-- the whole records; a shorter rest is in none
abbrev pub records_in : List ℕ → List EventRecord
records_in s = records (length s / 11) s
