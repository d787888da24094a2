-- The pipe bytes, and check 4.
use Rattle.std.specs.Prelude.{List, [], ◌∷◌, ℕ, eqb, get_or, Err}
use Rattle.vocabulary.specs.PipeKinds.{pipe_of, is_known}
use Rattle.rules.specs.Lists.{must}
use Rattle.vocabulary.specs.declared.refusal.Refusal.TheVariants.{Pipes}
use Rattle.plan.specs.Checks.{Check, passed}

-- 4: each pipe byte stands for a kind
unfoldable pub kinds_check : List ℕ → Check
kinds_check [] = passed
kinds_check (b ∷ s) = must (is_known (pipe_of b)) (Err Pipes) (kinds_check s)

-- 4: the first pipe is serial, and each byte stands for a kind
unfoldable pub pipes_check : List ℕ → Check
pipes_check s = must (eqb (get_or s 0 0) 83) (Err Pipes) (kinds_check s)
