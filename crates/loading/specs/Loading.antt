-- Loading a plan: what is refused, and what is left in memory.
use Rattle.std.specs.Prelude.{List, ℕ, leb, length}
use Rattle.rules.specs.Lists.{must, within}
use Rattle.vocabulary.specs.declared.refusal.Refusal.{Refusal}
use Rattle.plan.specs.Reading.{Outcome, accepted, refused, read_of}
use Rattle.loading.specs.Layout.{laid_out}

-- "Checks come in the order 1, 2, 3, 4, then records in file order .. Then 8, 9." A refusal leaves the memory as it was:
-- "nothing written". Else the plan is laid out in it.
unfoldable pub load_as : Outcome → ℕ → List ℕ → Outcome × List ℕ
load_as (refused why) workers m = (refused why, m)
load_as (accepted p) workers m =
    must (within 1 32 workers) (refused Refusal.Workers, m)
    (must (leb 32768 (length m)) (refused Refusal.Memory, m)
    (accepted p, laid_out p.records m))

-- what loading a file gives
abbrev pub load_of : List ℕ → ℕ → List ℕ → Outcome × List ℕ
load_of file workers m = load_as (read_of file) workers m
