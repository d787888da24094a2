-- A file's records, computed from the definitions.
use mathlib.Core.Path.{◌≡◌, refl}
use mathlib.Core.List.{List, [], ◌∷◌}
use Prim.Native.Nat.{ℕ}
use Rattle.vocabulary.specs.declared.event.EventRecord.{EventRecord}
use Rattle.journal_file.specs.Records.{records, records_in}

-- a start, a stop, and ten bytes more
abbrev bytes : List ℕ
bytes =
    83 ∷ 31 ∷ 0 ∷ 15 ∷ 0 ∷ 255 ∷ 15 ∷ 3 ∷ 1 ∷ 2 ∷ 0 ∷
    88 ∷ 1 ∷ 0 ∷ 0 ∷ 0 ∷ 0 ∷ 0 ∷ 0 ∷ 0 ∷ 4 ∷ 0 ∷
    70 ∷ 1 ∷ 0 ∷ 0 ∷ 0 ∷ 0 ∷ 0 ∷ 0 ∷ 0 ∷ 4 ∷
    []

abbrev held : List EventRecord
held =
    record { kind = 83; line = 31; pipe = 15; token = 4095; place = 259; worker = 2 } ∷
    record { kind = 88; line = 1; pipe = 0; token = 0; place = 0; worker = 4 } ∷
    []

pub some_records : records_in bytes ≡ held
unfolding records
some_records = refl
