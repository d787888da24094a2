-- What the rules make of a plan: its pipeline, and what each token's record lists.
use Rattle.std.specs.Prelude.{Bool, false, List, ◌++◌, map, ℕ, ◌-◌, length, replicate}
use Rattle.rules.specs.PlainSheet.{Deferral, numbers_of}
use Rattle.rules.specs.RunState.{Pipeline}
use Rattle.plan.specs.Plan.{Plan, Record}
use Rattle.vocabulary.specs.declared.pipe_kind.PipeKind.{PipeKind}
use Rattle.vocabulary.specs.PipeKinds.{serial_kind}

-- a list filled up to a length
abbrev pub filled_up : {A : Type 0} → ℕ → A → List A → List A
filled_up n a l = l ++ replicate (n - length l) a

-- a record as the rules have it
abbrev pub deferral : Record → Deferral
deferral r = (r.token, r.numbers)

-- what a token's record lists: nothing, if it has none
abbrev pub numbers_in : List Record → ℕ → List ℕ
numbers_in rs = numbers_of (map deferral rs)

-- which of the 16 pipes that a plan can have are serial
abbrev pub serial_of : List PipeKind → List Bool
serial_of kinds = filled_up 16 false (map serial_kind kinds)

-- a plan, but for its records
abbrev pub pipeline_of : Plan → Pipeline
pipeline_of p = record {
  pipes = length p.kinds;
  lines = p.lines;
  tokens = p.tokens;
  serial = serial_of p.kinds;
}
