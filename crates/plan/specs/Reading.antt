-- What reading a file must answer, for any list of bytes: the checks in their order, and the plan that the bytes spell.
use Rattle.std.specs.Prelude.{List, map, ℕ, leb, length, take, drop, Result, Ok, Err}
use Rattle.rules.specs.Lists.{must}
use Rattle.plan.specs.Checks.{Check, both}
use Rattle.plan.specs.Plan.{Plan, header_of}
use Rattle.plan.specs.Trailer.{trailer_of, header_check}
use Rattle.plan.specs.Pipes.{pipes_check}
use Rattle.vocabulary.specs.PipeKinds.{kind_of}
use Rattle.plan.specs.Records.{records_check, records_in}
use Rattle.vocabulary.specs.declared.refusal.Refusal.{Refusal}
use Rattle.vocabulary.specs.declared.refusal.Refusal.TheVariants.{FileSize}
use Rattle.plan.specs.declared.trailer.Header.{Header}

-- the records' bytes in a file with such a trailer
abbrev pub record_part : Header → List ℕ → List ℕ
record_part h file = take h.start file

-- its pipe bytes
abbrev pub pipe_part : Header → List ℕ → List ℕ
pipe_part h file = take h.pipes (drop h.start file)

-- 4, then 5 to 7
unfoldable pub parts_check : Header → List ℕ → Check
parts_check h file = both (pipes_check (pipe_part h file)) (records_check h.tokens h.records (record_part h file))

-- all checks of a file, in their order: 1, 2, 3, 4, then 5 to 7
unfoldable pub check_of : List ℕ → Check
check_of file =
    must (leb 12 (length file)) (Err FileSize)
    (must (leb (length file) 32796) (Err FileSize)
    (both (header_check (trailer_of file) (length file))
    (parts_check (trailer_of file) file)))

-- the plan that a file with such a trailer spells
unfoldable pub plan_with : Header → List ℕ → Plan
plan_with h file = record {
  kinds = map kind_of (pipe_part h file);
  lines = h.lines;
  tokens = h.tokens;
  records = records_in (record_part h file);
}

-- the plan that a file spells
abbrev pub plan_of : List ℕ → Plan
plan_of file = plan_with (trailer_of file) file

-- what reading a file must answer: the plan, or why not
pub data Outcome : Type 0 where
  accepted : Plan → Outcome
  refused : Refusal → Outcome

-- the plan where the checks are passed
abbrev pub outcome : Check → Plan → Outcome
outcome (Ok ok) p = accepted p
outcome (Err r) p = refused r

unfoldable pub read_of : List ℕ → Outcome
read_of file = outcome (check_of file) (plan_of file)

-- what the code returns for it: of a plan the header
abbrev pub reading_of : Outcome → Result Header Refusal
reading_of (accepted p) = Ok (header_of p)
reading_of (refused r) = Err r
