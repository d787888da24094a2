-- Chains of deferrals (01, "The plain sheet and whole runs").
use Rattle.std.specs.Prelude.{◌≡◌, true, List, [], ◌∷◌, ◌⊎◌, ℕ, ◌≤◌}
use Rattle.rules.specs.Lists.{has, times}

-- "A chain goes from a token to any number in its records, from there to any in that one's, and so on."
pub data Chain (numbers : ℕ → List ℕ) : ℕ → List ℕ → Type 0 where
  stop : {n : ℕ} → Chain numbers n (n ∷ [])
  step : {n m : ℕ} {l : List ℕ} → has (numbers n) m ≡ true → Chain numbers m l → Chain numbers n (n ∷ l)

-- "It meets a cycle if a number comes in it twice."
abbrev pub MeetsCycle : List ℕ → Type 0
MeetsCycle l = (n : ℕ) × (2 ≤ times n l)

-- it meets a number that never enters: "A number never enters if it is N or more."
abbrev pub MeetsAbsent : ℕ → List ℕ → Type 0
MeetsAbsent tokens l = (n : ℕ) × (has l n ≡ true) × (tokens ≤ n)

-- a chain from a token meets a cycle or a number that never enters
abbrev pub Blocked : ℕ → (ℕ → List ℕ) → ℕ → Type 0
Blocked tokens numbers n = (l : List ℕ) × Chain numbers n l × (MeetsCycle l ⊎ MeetsAbsent tokens l)
