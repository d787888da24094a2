-- The definitions at examples: case a of the paper, case b's plan, a file for each refusal, and the limits.
use mathlib.Core.Path.{◌≡◌, refl}
use mathlib.Core.List.{List, [], ◌∷◌, ◌++◌, map}
use Prim.Native.Nat.{ℕ, zero, suc, ◌*◌}
use lib.ListN.{length, replicate}
use Rattle.std.specs.Prelude.{Err}
use Rattle.fields.specs.Bytes.{fields, field_bytes}
use Rattle.vocabulary.specs.Refusals.{number_of}
use Rattle.plan.specs.Checks.{passed}
use Rattle.plan.specs.Plan.{Plan, encode, records_bytes}
use Rattle.plan.specs.Trailer.{header_check}
use Rattle.plan.specs.Pipes.{pipes_check, kinds_check}
use Rattle.plan.specs.Records.{records_from, record_check, numbers_from, records_of}
use Rattle.plan.specs.Reading.{Outcome, accepted, refused, read_of, check_of, parts_check, plan_with}
use Rattle.vocabulary.specs.declared.refusal.Refusal.TheVariants.{ListsItself, RecordLayout, TotalCount}
use Rattle.vocabulary.specs.declared.pipe_kind.PipeKind.TheVariants.{Serial}

-- what reading answers, as the paper numbers it; 0 for a plan
numbered : Outcome → ℕ
numbered (accepted p) = 0
numbered (refused r) = number_of r

-- case a: one serial pipe, one line, one token, no records
case_a : read_of (0x53 ∷ 0x00 ∷ 0x00 ∷ 0x01 ∷ 0x00 ∷ 0x01 ∷ 0x00 ∷ 0x01 ∷ 0x00 ∷ 0x00 ∷ 0x00 ∷ 0x01 ∷ 0x00 ∷ [])
    ≡ accepted (record { kinds = Serial ∷ []; lines = 1; tokens = 1; records = [] })
unfolding read_of check_of header_check parts_check pipes_check kinds_check records_from record_check numbers_from plan_with records_of fields
case_a = refl

-- case b: 7 defers to 16; 12 to 6, 7 and 16
plan_b : Plan
plan_b = record {
  kinds = Serial ∷ [];
  lines = 1;
  tokens = 17;
  records = record { token = 7; numbers = 16 ∷ [] } ∷ record { token = 12; numbers = 6 ∷ 7 ∷ 16 ∷ [] } ∷ [];
}

case_b : read_of (encode plan_b) ≡ accepted plan_b
unfolding read_of check_of header_check parts_check pipes_check kinds_check records_from record_check numbers_from plan_with records_of fields
    field_bytes records_bytes encode plan_b
case_b = refl

-- a file with these record fields, pipe bytes and trailer fields
abbrev file : List ℕ → List ℕ → List ℕ → List ℕ
file records kinds trailer = field_bytes records ++ (kinds ++ field_bytes trailer)

-- with P pipes, L lines and N tokens, and no records
abbrev sized : ℕ → ℕ → ℕ → List ℕ
sized pipes lines tokens = file [] (replicate pipes 83) (0 ∷ pipes ∷ lines ∷ tokens ∷ 0 ∷ 1 ∷ [])

-- with one pipe, one line, 9 tokens and so many records
abbrev recorded : List ℕ → ℕ → List ℕ
recorded fs records = file fs (83 ∷ []) (2 * length fs ∷ 1 ∷ 1 ∷ 9 ∷ records ∷ 1 ∷ [])

-- a file and its number, one after the other
refusals : map (λ s. numbered (read_of s)) (
    replicate 11 0 ∷
    file [] (83 ∷ 83 ∷ []) (0 ∷ 1 ∷ 1 ∷ 9 ∷ 0 ∷ 1 ∷ []) ∷
    file [] (83 ∷ []) (0 ∷ 1 ∷ 1 ∷ 9 ∷ 0 ∷ 2 ∷ []) ∷
    sized 0 1 9 ∷ sized 16 1 9 ∷ sized 17 1 9 ∷
    sized 1 0 9 ∷ sized 1 32 9 ∷ sized 1 33 9 ∷
    sized 1 1 4096 ∷ sized 1 1 4097 ∷
    file [] (80 ∷ []) (0 ∷ 1 ∷ 1 ∷ 9 ∷ 0 ∷ 1 ∷ []) ∷
    file [] (83 ∷ 81 ∷ []) (0 ∷ 2 ∷ 1 ∷ 9 ∷ 0 ∷ 1 ∷ []) ∷
    -- token 3 lists 4; that are two records; that is half of a record; it lists itself; it lists itself, and R is wrong
    recorded (3 ∷ 1 ∷ 4 ∷ []) 1 ∷ recorded (3 ∷ 1 ∷ 4 ∷ []) 2 ∷ recorded (3 ∷ 2 ∷ 3 ∷ []) 1 ∷
    recorded (3 ∷ 1 ∷ 3 ∷ []) 1 ∷ recorded (3 ∷ 1 ∷ 3 ∷ []) 2 ∷
    -- it lists 4 and then itself; no number; 17 numbers; a token of 9; a token twice
    recorded (3 ∷ 2 ∷ 4 ∷ 3 ∷ []) 1 ∷ recorded (3 ∷ 0 ∷ []) 1 ∷ recorded (3 ∷ 17 ∷ replicate 17 4) 1 ∷
    recorded (9 ∷ 1 ∷ 4 ∷ []) 1 ∷ recorded (3 ∷ 1 ∷ 4 ∷ 3 ∷ 1 ∷ 4 ∷ []) 2 ∷
    -- it lists tokens that never enter
    recorded (3 ∷ 2 ∷ 9 ∷ 65535 ∷ []) 1 ∷ [])
    ≡ 1 ∷ 2 ∷ 3 ∷ 3 ∷ 0 ∷ 3 ∷ 3 ∷ 0 ∷ 3 ∷ 0 ∷ 3 ∷ 4 ∷ 4 ∷ 0 ∷ 5 ∷ 5 ∷ 6 ∷ 6 ∷ 5 ∷ 5 ∷ 5 ∷ 5 ∷ 5 ∷ 0 ∷ []
unfolding numbered field_bytes read_of check_of header_check parts_check pipes_check kinds_check records_from record_check numbers_from plan_with records_of fields
refusals = refl

-- the running total comes after cut short and before the numbers: a record of token 3 where 8,191 and 8,192 numbers were listed
totals : map (λ before. map (λ fs. record_check 9 0 before (field_bytes fs)) ((3 ∷ 1 ∷ 4 ∷ []) ∷ (3 ∷ 1 ∷ 3 ∷ []) ∷ (3 ∷ 1 ∷ []) ∷ [])) (8191 ∷ 8192 ∷ [])
    ≡ (passed ∷ Err ListsItself ∷ Err RecordLayout ∷ []) ∷ (Err TotalCount ∷ Err TotalCount ∷ Err RecordLayout ∷ []) ∷ []
unfolding field_bytes record_check numbers_from fields
totals = refl

-- so many records of 16 numbers, and further fields
many : ℕ → ℕ → List ℕ → List ℕ
many zero token fs = fs
many (suc records) token fs =
    token ∷ 16 ∷ 5000 ∷ 5001 ∷ 5002 ∷ 5003 ∷ 5004 ∷ 5005 ∷ 5006 ∷ 5007 ∷ 5008 ∷ 5009 ∷ 5010 ∷ 5011 ∷ 5012 ∷ 5013 ∷ 5014 ∷ 5015
    ∷ many records (suc token) fs

abbrev large : List ℕ → ℕ → List ℕ
large fs records = file fs (83 ∷ []) (2 * length fs ∷ 1 ∷ 1 ∷ 4096 ∷ records ∷ 1 ∷ [])

-- 8,192 and 8,193 numbers together
limits : map (λ s. numbered (read_of s)) (large (many 512 0 []) 512 ∷ large (many 512 0 (512 ∷ 1 ∷ 0 ∷ [])) 513 ∷ []) ≡ 0 ∷ 7 ∷ []
unfolding many numbered field_bytes read_of check_of header_check parts_check pipes_check kinds_check records_from record_check numbers_from plan_with records_of fields
limits = refl
