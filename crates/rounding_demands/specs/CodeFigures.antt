-- What runs of the code publish: those with the same cells throughout, and the figures handed on as left.
use Rattle.vocabulary.specs.declared.refusal.Refusal.{Refusal}
use Rattle.std.specs.Prelude.{◌≡◌, true, false, List, [], ◌∷◌, map, ℕ, suc, ◌-◌, ◌≤◌, ◌<◌, length, get_or, take, Result, Ok}
use Rattle.vocabulary.specs.declared.event.Event.{Event}
use Rattle.rules.specs.Lists.{has, Every}
use Rattle.rules.specs.Choices as rules
use Rattle.rules.specs.Choices.{Choice, Refused, ended}
use Rattle.rules.specs.Answers.{answer_of}
use Rattle.rules.specs.WholeRuns.{WorkersInRange, Accepted}
use Rattle.rules.specs.Rounding as paper
use Rattle.rules.specs.Rounding.{published, lent_fits}
use Rattle.rules.specs.RoundedRuns.{sum_of, AtOpening, CarriedRun}
use Rattle.plan.specs.Plan.{Plan, Valid, encode}
use Rattle.tables.specs.Calls.{memory_source}
use Rattle.loading.specs.Plans.{pipeline_of}
use Rattle.state.specs.Machines.{machine_of}
use Rattle.state.specs.Ending.{ended_of}
use Rattle.rounding.specs.declared.run.Run.{Run}
use Rattle.rounded_opening.specs.declared.Opened.{Opened}
use Rattle.demands.specs.Demands.{order, begun, told, left}
use Rattle.demands.specs.CodeRuns.{but_workers}
use Rattle.rounding_demands.specs.RoundedPlans.{figures_carried}
use Rattle.rounding_demands.specs.CodeRounding.{ChooseRoundedCall, OpenRoundedCall}

-- from a run, its memory and figures, calls of `choose_rounded` with these choices, each given what the one before left, "with the same
-- cells throughout and the figures handed on as left", returned these answers and left this run, memory and figures
pub data CarriedCalls (cells : List ℕ) : Run → List ℕ → List ℕ → List Choice → List (Result Event Refusal) → Run → List ℕ → List ℕ → Type 0 where
  no_call : {r : Run} {m f : List ℕ} → CarriedCalls cells r m f [] [] r m f
  call : {r next last : Run} {m m' end f f' left : List ℕ} {c : Choice} {cs : List Choice} {a : Result Event Refusal} {rest : List (Result Event Refusal)} →
      ChooseRoundedCall r m (record { choice = c; cells = cells; figures = f }) (record { answer = a; run = next }) m' f' →
      CarriedCalls cells next m' f' cs rest last end left → CarriedCalls cells r m f (c ∷ cs) (a ∷ rest) last end left

-- an accepted opening of a file with W workers, this pipe and base, and these choices; what came of them, and the figures at the end
pub record CarriedSession (file : List ℕ) (workers : ℕ) (lent : List ℕ) (pipe base : ℕ) (cells : List ℕ) (choices : List Choice) : Type 0 where
  pub figures : List ℕ
  pub opening : Opened
  pub begun : List ℕ
  pub cleared : List ℕ
  pub opens : OpenRoundedCall file workers pipe base lent cells figures opening begun cleared
  pub accepts : opening.answer ≡ Ok tt
  pub answers : List (Result Event Refusal)
  pub run : Run
  pub memory : List ℕ
  pub publishes : List ℕ
  pub calls : CarriedCalls cells opening.run begun cleared choices answers run memory publishes

-- the rounding that such a run begins with: T is 0
abbrev pub starting : ℕ → ℕ → paper.Rounding
starting pipe base = record { pipe = pipe; base = base; sum = 0 }

-- the sum of the cells of the first k places of a plan's sheet
abbrev pub cells_up_to : Plan → List ℕ → ℕ → ℕ
cells_up_to plan cells k = sum_of (map (λ t. get_or cells t 0) (take k (order plan)))

module _ {file : List ℕ} {workers : ℕ} {lent : List ℕ} {pipe base : ℕ} {cells : List ℕ} {choices : List Choice}
    (s : CarriedSession file workers lent pipe base cells choices) where
  abbrev pub carried_events : List rules.Answer
  carried_events = map answer_of s.answers

  -- two such sessions have the same events, left the same state but for W, the same numbers, T and figures
  pub record SameCarried {w : ℕ} {m : List ℕ} {cs : List Choice} (t : CarriedSession file w m pipe base cells cs) : Type 0 where
    pub events : map answer_of t.answers ≡ carried_events
    pub states : but_workers t.run.state ≡ but_workers s.run.state
    pub memories : t.memory ≡ s.memory
    pub roundings : t.run.rounding ≡ s.run.rounding
    pub figures : t.publishes ≡ s.publishes

  pub record CodeFigures : Type 0 where
    pub plan : Plan
    pub valid : Valid plan
    pub file_is : file ≡ encode plan
    pub manned : WorkersInRange workers
    pub enough : 32768 ≤ length lent
    pub opens : AtOpening (pipeline_of plan) (starting pipe base)
    -- an opening is accepted only with N cells of at most 1,000,000: so rounding changes no answer, nor the state and numbers but for T
    pub fits : lent_fits plan.tokens cells s.cleared ≡ true
    pub told_is : carried_events ≡ told plan lent workers choices
    pub left_is : machine_of s.run.state s.memory ≡ left plan lent workers choices
    pub ended_is : ended_of s.run.state ≡ ended (left plan lent workers choices)
    -- "no run gets 14", and with fit cells nothing gets 18
    pub never_14 : Every (λ a. a ≡ Refused 14 → ⊥) carried_events
    pub never_18 : Every (λ a. a ≡ Refused 18 → ⊥) carried_events
    -- the figures and T after any of its choices, place by place, as `CarriedRun` says
    pub carried : CarriedRun memory_source (pipeline_of plan) workers (begun plan lent) (starting pipe base) cells choices (order plan)
    pub publishes_is : s.publishes ≡ figures_carried plan lent workers (starting pipe base) cells choices
    pub sum_is : s.run.rounding.sum ≡ cells_up_to plan cells carried.passed
    pub pipe_kept : s.run.rounding.pipe.0 ≡ pipe
    pub base_kept : s.run.rounding.base ≡ base
    -- at the end: "that of its place's running sums on the sheet"
    pub figure : ended_of s.run.state ≡ true → (k : ℕ) → k < length (order plan) →
        get_or s.publishes (get_or (order plan) k 0) 0 ≡ published base (cells_up_to plan cells (suc k)) - published base (cells_up_to plan cells k)
    -- "a token never ordered keeps 0"
    pub never_ordered : ended_of s.run.state ≡ true → (n : ℕ) → has (order plan) n ≡ false → get_or s.publishes n 0 ≡ 0
    -- the figures' total is the published sum of the cells' total over the sheet
    pub sum_total : ended_of s.run.state ≡ true → s.run.rounding.sum ≡ cells_up_to plan cells (length (order plan))
    pub total : ended_of s.run.state ≡ true → sum_of s.publishes ≡ published base (cells_up_to plan cells (length (order plan)))
    -- "Any two runs over one plan, pipe and base, followed to their end with the same cells throughout and the figures handed on as left,
    -- publish the same figure for each token", with whatever W, lent numbers and choices
    pub same_figures : {w : ℕ} {m : List ℕ} {cs : List Choice} (t : CarriedSession file w m pipe base cells cs) →
        ended_of s.run.state ≡ true → ended_of t.run.state ≡ true → s.publishes ≡ t.publishes
    -- a list of choices that was accepted, made again under a larger limit in the same lent memory, has the same events, T and figures
    pub reused : Every Accepted carried_events → {larger : ℕ} (t : CarriedSession file larger lent pipe base cells choices) → workers ≤ larger → SameCarried t
    -- two neighbours on different lines, accepted in both orders, lead to the same state, numbers, T and figures, each with the same event
    pub swapped : {a b : Choice} → (a.line ≡ b.line → ⊥) → {on-a on-b on-b' on-a' : Result Event Refusal} {one other : Run} {m m' f f' : List ℕ} →
        CarriedCalls cells s.run s.memory s.publishes (a ∷ b ∷ []) (on-a ∷ on-b ∷ []) one m f →
        CarriedCalls cells s.run s.memory s.publishes (b ∷ a ∷ []) (on-b' ∷ on-a' ∷ []) other m' f' →
        Every Accepted (map answer_of (on-a ∷ on-b ∷ [])) → Every Accepted (map answer_of (on-b' ∷ on-a' ∷ [])) →
        (one ≡ other) × (m ≡ m') × (f ≡ f') × (answer_of on-a ≡ answer_of on-a') × (answer_of on-b ≡ answer_of on-b')
