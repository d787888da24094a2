-- The checksum of a run's answers.
use Rattle.std.specs.Prelude.{List, [], ◌∷◌, ℕ, ◌+◌, ◌*◌, ◌%◌}
use Rattle.rules.specs.Choices.{Answer, Started, Finished, Stopped, Refused}

-- the numbers of a start or a finish as one
unfoldable pub step_value : ℕ → ℕ → ℕ → ℕ → ℕ → ℕ
step_value line pipe token place worker = 4 * line + 256 * pipe + 4096 * token + 16777216 * place + 68719476736 * worker

-- those of a stop
unfoldable pub stop_value : ℕ → ℕ → ℕ
stop_value line worker = 4 * line + 68719476736 * worker

-- an answer as one number
unfoldable pub value_of : Answer → ℕ
value_of (Started line pipe token place worker) = step_value line pipe token place worker
value_of (Finished line pipe token place worker) = step_value line pipe token place worker + 1
value_of (Stopped line worker) = stop_value line worker + 2
value_of (Refused number) = 4 * number + 3

-- a checksum, below 2^41, with one more number
unfoldable pub mixed : ℕ → ℕ → ℕ
mixed sum n = (sum % 2199023255552 * 1000003 + n) % 2199023255552

-- with all answers of a list
unfoldable pub checksum : ℕ → List Answer → ℕ
checksum sum [] = sum
checksum sum (a ∷ l) = checksum (mixed sum (value_of a)) l
