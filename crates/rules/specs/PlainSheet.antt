-- The plain sheet (01, "The plain sheet and whole runs"): it is fed L, N and the records, and no choices.
use Rattle.std.specs.Prelude.{true, List, [], ◌∷◌, ℕ, zero, suc, ◌%◌, eqb}
use Rattle.rules.specs.Lists.{if}
use Rattle.rules.specs.TakingTokens.{Tables, Taken, none, took, take, release, opened, tokens_of}
use Rattle.rules.specs.Sources.{Source, Taken as Offer, Nothing, Took, Passed}

-- a deferral record: a token and the numbers that it lists
abbrev pub Deferral : Type 0
Deferral = ℕ × List ℕ

-- what a token's record lists: nothing, if it has none
unfoldable pub numbers_of : List Deferral → ℕ → List ℕ
numbers_of [] n = []
numbers_of (r ∷ rs) n = if (eqb r.0 n) r.1 (numbers_of rs n)

-- what taking gives, as a source's answer
abbrev pub offered : Taken → Offer Tables
offered (none t) = Nothing t
offered (took n t) = Took n t

-- N tokens, and the numbers that each lists
module _ (tokens : ℕ) (numbers : ℕ → List ℕ) where
  -- the tokens written down from these tables on, in so many steps at most: "Each step takes a token as a line at pipe 0
  -- does, by rules 1 to 3. .. An ordered token is written down .., and rule 4 is applied to it at once. A step that finds
  -- no ready token and Count not below N closes the sheet."
  unfoldable pub written : ℕ → Tables → List ℕ
  written zero t = []
  written (suc steps) t = elim (take tokens numbers t) [ none u ↦ [] | took n u ↦ n ∷ written steps (release n u) ]

  -- the tables that these steps leave
  unfoldable pub leaves : ℕ → Tables → Tables
  leaves zero t = t
  leaves (suc steps) t = elim (take tokens numbers t) [ none u ↦ u | took n u ↦ leaves steps (release n u) ]

  -- the plain sheet: the tokens in their order, of which M is the number. N + 1 steps close it (proofs/sheet).
  unfoldable pub sheet : List ℕ
  sheet = written (suc tokens) opened

  -- the tables at which it closes
  unfoldable pub closed : Tables
  closed = leaves (suc tokens) opened

  -- the tokens that stay deferred
  unfoldable pub staying : List ℕ
  staying = tokens_of closed.deferred

  -- the tables as a source of tokens: they are never spoiled
  abbrev pub plain_source : Source Tables
  plain_source = record { take = λ t. offered (take tokens numbers t); release = λ n t. Passed (release n t); sound = λ t. true }

-- a row of the sheet: a token "is written down with its place k and line k mod L"
pub record Row : Type 0 where
  pub token : ℕ
  pub place : ℕ
  pub line : ℕ

-- the sheet's rows, for tokens that are written down from place k on
unfoldable pub rows : ℕ → ℕ → List ℕ → List Row
rows lines k [] = []
rows lines k (t ∷ ts) = record { token = t; place = k; line = k % lines } ∷ rows lines (suc k) ts

-- the tokens of the rows that are on one line
unfoldable pub on_line : ℕ → List Row → List ℕ
on_line line [] = []
on_line line (r ∷ rs) = if (eqb r.line line) (r.token ∷ on_line line rs) (on_line line rs)
