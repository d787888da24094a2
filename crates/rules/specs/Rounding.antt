-- The rounding paper (02, 2.2), over any source of tokens: one serial pipe publishes each token's cell rounded, and carries the rest on.
use Rattle.std.specs.Prelude.{Bool, true, false, List, [], ◌∷◌, ℕ, ◌+◌, ◌-◌, ◌*◌, ◌/◌, leb, ltb, eqb, length, get_or, set, replicate}
use Rattle.rules.specs.Lists.{if, must, must_not, all, every}
use Rattle.rules.specs.Sources.{Source}
use Rattle.rules.specs.RunState.{Pipeline, Machine}
use Rattle.rules.specs.Choices.{Choice, Answer, Started, Finished, Stopped, Refused, Chosen, choose_by}
use Rattle.rules.specs.Offers.{is_refused}

-- "With T the sum of cells that passed it so far, the published sum is b times the whole part of (T + (b − 1)/2)/b"
unfoldable pub published : ℕ → ℕ → ℕ
published base sum = base * ((sum + (base - 1) / 2) / base)

-- "a cell publishes the rise in that sum"
unfoldable pub rise : ℕ → ℕ → ℕ → ℕ
rise base sum cell = published base (sum + cell) - published base sum

-- "a count up to 1,000,000"; what T may not pass
abbrev pub cell_most : ℕ
cell_most = 1000000

abbrev pub sum_most : ℕ
sum_most = 4096000000

-- "base b, 3 or 5"
unfoldable pub is_base : ℕ → Bool
is_base b = if (eqb b 3) true (eqb b 5)

-- "one serial pipe rounds it": a pipe of the plan, and a serial one
unfoldable pub is_rounding_pipe : ℕ → List Bool → ℕ → Bool
is_rounding_pipe pipes serial p = all (ltb p pipes ∷ get_or serial p false ∷ [])

-- "Pipe, base and T belong to the state"
pub record Rounding : Type 0 where
  pub pipe : ℕ
  pub base : ℕ
  pub sum : ℕ

-- "An opening may still go without rounding": all three are 0
abbrev pub no_rounding : Rounding
no_rounding = record { pipe = 0; base = 0; sum = 0 }

-- the same pipe and base, with another T
abbrev pub with_sum : Rounding → ℕ → Rounding
with_sum r sum = record { pipe = r.pipe; base = r.base; sum = sum }

-- the ranges of the three
unfoldable pub rounding_sound : ℕ → List Bool → Rounding → Bool
rounding_sound pipes serial r =
    if (eqb r.base 0) (all (eqb r.pipe 0 ∷ eqb r.sum 0 ∷ []))
    (all (is_base r.base ∷ is_rounding_pipe pipes serial r.pipe ∷ leb r.sum sum_most ∷ []))

-- no cell is too large
unfoldable pub cells_fit : List ℕ → Bool
cells_fit cells = every (length cells) (λ i. leb (get_or cells i 0) cell_most)

-- there are so many cells, and as many figures, and no cell is too large
unfoldable pub lent_fits : ℕ → List ℕ → List ℕ → Bool
lent_fits n cells figures = all (eqb (length cells) n ∷ eqb (length figures) n ∷ cells_fit cells ∷ [])

-- how many cells and figures are lent: N; "An opening may still go without rounding; .. for it N in 18 reads as 0"
unfoldable pub lent_count : ℕ → Rounding → ℕ
lent_count tokens r = if (eqb r.base 0) 0 tokens

-- what an opening with rounding comes to: a refusal, or the state's three numbers and the figures
pub data OpenedRounding : Type 0 where
  TurnedDown : ℕ → OpenedRounding
  Opens : Rounding → List ℕ → OpenedRounding

-- "Refused, after 9 in this order: 16 pipe absent or parallel, 17 base not 3 or 5, 18 cells or figures not N in number or a cell too
-- large"; "the figures are cleared to 0 at opening"
unfoldable pub open_rounding : Pipeline → ℕ → ℕ → List ℕ → List ℕ → OpenedRounding
open_rounding plan pipe base cells figures =
    must (is_rounding_pipe plan.pipes plan.serial pipe) (TurnedDown 16)
    (must (is_base base) (TurnedDown 17)
    (must (lent_fits plan.tokens cells figures) (TurnedDown 18)
    (Opens (record { pipe = pipe; base = base; sum = 0 }) (replicate plan.tokens 0))))

-- a token, or none
pub data Passing : Type 0 where
  NonePasses : Passing
  Passes : ℕ → Passing

-- the token that finishes a pipe by an answer
unfoldable pub finisher : ℕ → Answer → Passing
finisher p (Finished l q t k w) = if (eqb q p) (Passes t) NonePasses
finisher p (Started l q t k w) = NonePasses
finisher p (Stopped l w) = NonePasses
finisher p (Refused n) = NonePasses

-- "A cell has passed when its token finishes that pipe": the token whose cell passes by an answer
unfoldable pub passing : Rounding → Answer → Passing
passing r a = if (eqb r.base 0) NonePasses (finisher r.pipe a)

-- T after it
abbrev pub sum_after : Rounding → List ℕ → Passing → ℕ
sum_after r cells NonePasses = r.sum
sum_after r cells (Passes t) = r.sum + get_or cells t 0

-- and the figures
abbrev pub figures_after : Rounding → List ℕ → List ℕ → Passing → List ℕ
figures_after r cells figures NonePasses = figures
figures_after r cells figures (Passes t) = set figures t (rise r.base r.sum (get_or cells t 0))

-- a run, and its rounding beside it
pub record Run (X : Type 0) : Type 0 where
  pub machine : Machine X
  pub rounding : Rounding

-- "Cells and figures are lent to every choice as well": a choice, and what is lent with it
pub record Lending : Type 0 where
  pub choice : Choice
  pub cells : List ℕ
  pub figures : List ℕ

-- what such a choice returns and leaves
pub record RoundedChosen (X : Type 0) : Type 0 where
  pub answer : Answer
  pub run : Run X
  pub figures : List ℕ

-- "nothing is changed"
abbrev pub refuse_with : {X : Type 0} → Run X → Lending → Answer → RoundedChosen X
refuse_with r a answer = record { answer = answer; run = r; figures = a.figures }

-- an accepted choice does what it does without rounding; where a cell passes by it, T and the token's figure change besides
abbrev pub accept : {X : Type 0} → Run X → Lending → Chosen X → RoundedChosen X
accept r a c =
    let p : Passing = passing r.rounding c.answer in
    record {
      answer = c.answer;
      run = record { machine = c.machine; rounding = with_sum r.rounding (sum_after r.rounding a.cells p) };
      figures = figures_after r.rounding a.cells a.figures p;
    }

-- "in a choice 18 comes after all its own checks, then 14 if T would pass 4,096,000,000": with what the choice comes to without rounding
unfoldable pub rounded_with : {X : Type 0} → Run X → Lending → Chosen X → RoundedChosen X
rounded_with r a c =
    let t : ℕ = sum_after r.rounding a.cells (passing r.rounding c.answer) in
    must_not (is_refused c.answer) (refuse_with r a c.answer)
    (must (lent_fits (lent_count r.machine.tokens r.rounding) a.cells a.figures) (refuse_with r a (Refused 18))
    (must (leb t sum_most) (refuse_with r a (Refused 14))
    (accept r a c)))

module _ {X : Type 0} (S : Source X) where
  -- a choice of a run with rounding: first of all "14 if .. a number in state or memory is outside its range"
  unfoldable pub choose_rounded : Run X → Lending → RoundedChosen X
  choose_rounded r a =
      must (rounding_sound r.machine.pipes r.machine.serial r.rounding) (refuse_with r a (Refused 14))
      (rounded_with r a (choose_by S r.machine a.choice))

  -- what a list of choices answers, and the run that it leaves, whatever is lent to each
  unfoldable pub answers_rounded : Run X → List Lending → List Answer
  answers_rounded r [] = []
  answers_rounded r (a ∷ more) = (choose_rounded r a).answer ∷ answers_rounded (choose_rounded r a).run more

  unfoldable pub follow_rounded : Run X → List Lending → Run X
  follow_rounded r [] = r
  follow_rounded r (a ∷ more) = follow_rounded (choose_rounded r a).run more
