-- What every session of the code publishes is what the rounding paper says.
use Rattle.std.proofs.Common.{Result}
use Rattle.vocabulary.specs.declared.refusal.Refusal.{Refusal}
use mathlib.Core.Path.{◌≡◌, refl, sym, ap, subst, ◌∙◌}
use mathlib.Core.Bool.{true, false}
use mathlib.Core.List.{List, [], ◌∷◌, map}
use Prim.Native.Nat.{ℕ, suc, ◌-◌, ◌≤◌, ◌<◌}
use native.Mathlib.Omega.{arith}
use lib.ListN.{length, get_or, replicate}
use Rattle.vocabulary.specs.declared.event.Event.{Event}
use Rattle.rules.specs.Lists.{has, Every}
use Rattle.rules.specs.RunState.{Machine}
use Rattle.rules.specs.Ranges.{sound}
use Rattle.rules.specs.Choices.{Choice, Refused, choose_by, answers, ended, opened}
use Rattle.rules.specs.Answers.{answer_of}
use Rattle.rules.specs.WholeRuns.{Accepted}
use Rattle.rules.specs.Rounding as paper
use Rattle.rules.specs.Rounding.{published, is_base, lent_count, lent_fits, Lending, RoundedChosen, choose_rounded, answers_rounded, follow_rounded}
use Rattle.rules.specs.RoundedRuns.{sum_of, AtOpening, handed_on, figures_left, opened_run, carried_lendings, RoundedRun, CarriedRun}
use Rattle.rules.specs.RoundedWorkers.{more_run, ReusedHandedOn}
use Rattle.rules.specs.RoundedSwapping.{SwappedRounded}
use Rattle.rules.proofs.choices.Numbers.{never_18}
use Rattle.rules.proofs.rounding.Passers.{base_some}
use Rattle.rules.proofs.rounding.MoreWorkers.{more_workers_rounded}
use Rattle.rules.proofs.rounding.Swapping.{swapping_rounded}
use lib.Seq.{take_all}
use borrow.Author.Tests.{ne_eqb}
use Rattle.fields.specs.Bytes.{Bytes}
use Rattle.plan.specs.Plan.{Plan}
use Rattle.plan.proofs.Theorem.{one_plan}
use Rattle.tables.specs.State as tables
use Rattle.tables.specs.Calls.{memory_source}
use Rattle.loading.specs.Plans.{pipeline_of}
use Rattle.state.specs.Machines.{machine_of}
use Rattle.state.specs.Ending.{ended_of}
use Rattle.state.proofs.in_range.SoundLaws.{ended_is as ended_as_rules}
use Rattle.opening.specs.Opened.{state_of}
use Rattle.rounding.specs.declared.run.Run.{Run}
use Rattle.rounding.specs.Roundings.{rounding_of}
use Rattle.rounding.specs.Runs.{run_of}
use Rattle.rounded_opening.specs.declared.Opened.{Opened}
use Rattle.rounded_opening.specs.RoundedOpenings.{open_rounded_of}
use Rattle.rounded_opening.specs.OpenedRounded.{OpenedRounded}
use Rattle.rounded_opening.proofs.Opens.{opened_rounded_lem, opens_rounded_exactly}
use Rattle.rounded.specs.Runs.{chosen_of}
use Rattle.demands.specs.Demands.{order, begun, told, left}
use Rattle.demands.specs.CodeRuns.{but_workers}
use Rattle.demands.proofs.ValidPlans.{ranged}
use Rattle.demands.proofs.Demands.{memory_sheet, demands}
use Rattle.demands.proofs.CodeRuns.{left_sound}
use Rattle.rounding_demands.specs.RoundedPlans.{figures_carried, left_carried}
use Rattle.rounding_demands.specs.CodeFigures.{CarriedCalls, no_call, call, CarriedSession, starting, cells_up_to, carried_events, SameCarried, CodeFigures}
use Rattle.rounding_demands.proofs.RoundedPlans.{rounded_demands}
use Rattle.rounding_demands.proofs.OneRun.{same_rounding, same_run}

-- what such calls answer and leave, by the rules
pub record Carries (cells : List ℕ) (r : Run) (m f : List ℕ) (cs : List Choice) (told : List (Result Event Refusal)) (t : Run) (end g : List ℕ) : Type 0 where
  pub told_is : map answer_of told ≡ answers_rounded memory_source (run_of r m) (handed_on memory_source cells (run_of r m) f cs)
  pub left_is : run_of t end ≡ follow_rounded memory_source (run_of r m) (handed_on memory_source cells (run_of r m) f cs)
  pub figures_are : g ≡ figures_left memory_source cells (run_of r m) f cs

-- the first of them, and the others from what it left
module _ (cells : List ℕ) (x : paper.Run tables.State) (f : List ℕ) (c : Choice) (cs : List Choice) where
  abbrev lending : Lending
  lending = record { choice = c; cells = cells; figures = f }

  abbrev made : RoundedChosen tables.State
  made = choose_rounded memory_source x lending

  module _ {y : paper.Run tables.State} {g : List ℕ} (run_is : made.run ≡ y) (left_is : made.figures ≡ g) where
    told_then : answers_rounded memory_source x (handed_on memory_source cells x f (c ∷ cs)) ≡ made.answer ∷ answers_rounded memory_source y (handed_on memory_source cells y g cs)
    unfolding answers_rounded handed_on
    told_then =
        ap (λ (t : paper.Run tables.State). made.answer ∷ answers_rounded memory_source t (handed_on memory_source cells t made.figures cs)) run_is ∙
        ap (λ (k : List ℕ). made.answer ∷ answers_rounded memory_source y (handed_on memory_source cells y k cs)) left_is

    end_then : follow_rounded memory_source x (handed_on memory_source cells x f (c ∷ cs)) ≡ follow_rounded memory_source y (handed_on memory_source cells y g cs)
    unfolding follow_rounded handed_on
    end_then =
        ap (λ (t : paper.Run tables.State). follow_rounded memory_source t (handed_on memory_source cells t made.figures cs)) run_is ∙
        ap (λ (k : List ℕ). follow_rounded memory_source y (handed_on memory_source cells y k cs)) left_is

    figures_then : figures_left memory_source cells x f (c ∷ cs) ≡ figures_left memory_source cells y g cs
    unfolding figures_left
    figures_then =
        ap (λ (t : paper.Run tables.State). figures_left memory_source cells t made.figures cs) run_is ∙
        ap (λ (k : List ℕ). figures_left memory_source cells y k cs) left_is

pub calls_carry : {cells : List ℕ} {r t : Run} {m end f g : List ℕ} {cs : List Choice} {told : List (Result Event Refusal)} → CarriedCalls cells r m f cs told t end g →
    Carries cells r m f cs told t end g
unfolding answers_rounded follow_rounded handed_on figures_left chosen_of
calls_carry no_call = record { told_is = refl; left_is = refl; figures_are = refl }
calls_carry {cells} {r} {m = m} {f = f} (call {c = c} {cs = cs} {a = a} e more) =
    let rest = calls_carry more in
    let answer-is = ap (λ (c : RoundedChosen tables.State). c.answer) e in
    let run_is = sym (ap (λ (c : RoundedChosen tables.State). c.run) e) in
    let left_is = sym (ap (λ (c : RoundedChosen tables.State). c.figures) e) in
    record {
      told_is = (λ i. answer-is i ∷ rest.told_is i) ∙ sym (told_then cells (run_of r m) f c cs run_is left_is);
      left_is = rest.left_is ∙ sym (end_then cells (run_of r m) f c cs run_is left_is);
      figures_are = rest.figures_are ∙ sym (figures_then cells (run_of r m) f c cs run_is left_is);
    }

-- no list of choices without rounding gets 18
none_18 : (m : Machine tables.State) (cs : List Choice) → Every (λ a. a ≡ Refused 18 → ⊥) (answers memory_source m cs)
unfolding answers
none_18 m [] = tt
none_18 m (c ∷ cs) = (never_18 memory_source m c.worker c.line, none_18 (choose_by memory_source m c).machine cs)

-- where rounding is opened, N figures are lent
all_lent : (tokens pipe base : ℕ) → is_base base ≡ true → lent_count tokens (starting pipe base) ≡ tokens
unfolding lent_count
all_lent tokens pipe base b = rw (ne_eqb base 0 (base_some base b))

module _ {file : List ℕ} (bytes : Bytes file) {workers : ℕ} {lent : List ℕ} {pipe base : ℕ} {cells : List ℕ} {choices : List Choice}
    (s : CarriedSession file workers lent pipe base cells choices) where
  -- the opening
  pub here : OpenedRounded file workers pipe base lent cells s.figures (open_rounded_of file workers pipe base lent cells s.figures)
  here = opened_rounded_lem file workers pipe base lent cells s.figures bytes (ap (λ (x : Opened). x.answer) (sym s.opens.0) ∙ s.accepts)

  abbrev p : Plan
  p = here.plan

  abbrev r : paper.Rounding
  r = starting pipe base

  pub opens_here : AtOpening (pipeline_of p) r
  opens_here = subst (λ (q : paper.Rounding). AtOpening (pipeline_of p) q) here.rounding_is here.opens

  base_here : is_base base ≡ true
  base_here = ((opens_rounded_exactly file workers pipe base lent cells s.figures bytes).0
      (ap (λ (x : Opened). x.answer) (sym s.opens.0) ∙ s.accepts)).6

  begins : run_of s.opening.run s.begun ≡ opened_run memory_source (pipeline_of p) workers (begun p lent) r
  begins =
      ap (λ (x : Opened). run_of x.run s.begun) s.opens.0 ∙
      ap (run_of (open_rounded_of file workers pipe base lent cells s.figures).returned.run) s.opens.1 ∙ here.run_is ∙
      ap (λ (q : paper.Rounding). opened_run memory_source (pipeline_of p) workers (begun p lent) q) here.rounding_is

  cleared_is : s.cleared ≡ replicate (lent_count p.tokens r) 0
  cleared_is = s.opens.2 ∙ here.figures_are ∙ ap (λ n. replicate n 0) (sym (all_lent p.tokens pipe base base_here))

  fits_here : lent_fits p.tokens cells s.cleared ≡ true
  fits_here = ap (lent_fits p.tokens cells) s.opens.2 ∙ here.fits_cleared

  fits_count : lent_fits (lent_count p.tokens r) cells (replicate (lent_count p.tokens r) 0) ≡ true
  fits_count = rw (← cleared_is, all_lent p.tokens pipe base base_here) fits_here

  -- its choices, by the rules
  abbrev lendings : List Lending
  lendings = carried_lendings memory_source (pipeline_of p) workers (begun p lent) r cells choices

  pub carried_here : CarriedRun memory_source (pipeline_of p) workers (begun p lent) r cells choices (order p)
  carried_here = (rounded_demands p here.valid).carried lent workers here.manned r opens_here cells choices

  carries : Carries cells s.opening.run s.begun s.cleared choices s.answers s.run s.memory s.publishes
  carries = calls_carry s.calls

  told_rounded : carried_events s ≡ answers_rounded memory_source (opened_run memory_source (pipeline_of p) workers (begun p lent) r) lendings
  told_rounded = rw (← begins, ← cleared_is) carries.told_is

  left_rounded_lem : run_of s.run s.memory ≡ left_carried p lent workers r cells choices
  left_rounded_lem = rw (← begins, ← cleared_is) carries.left_is

  publishes_here : s.publishes ≡ figures_carried p lent workers r cells choices
  publishes_here = rw (← begins, ← cleared_is) carries.figures_are

  told_here : carried_events s ≡ told p lent workers choices
  told_here = told_rounded ∙ (carried_here.as_without fits_count).0

  left_here : machine_of s.run.state s.memory ≡ left p lent workers choices
  unfolding run_of
  left_here = ap (λ (x : paper.Run tables.State). x.machine) left_rounded_lem ∙ (carried_here.as_without fits_count).1

  ended_here : ended_of s.run.state ≡ ended (left p lent workers choices)
  ended_here =
      ended_as_rules s.run.state s.memory
      (ap (sound memory_source) left_here ∙ left_sound (demands p here.valid) lent here.enough here.manned choices) ∙
      ap ended left_here

  ends_rounded : ended_of s.run.state ≡ true → ended (left_carried p lent workers r cells choices).machine ≡ true
  ends_rounded e = ap ended (carried_here.as_without fits_count).1 ∙ sym ended_here ∙ e

  rounded_there : (z : tables.State) × RoundedRun memory_source (pipeline_of p) workers (begun p lent) r lendings (order p) z
  rounded_there = (rounded_demands p here.valid).runs lent workers here.manned r opens_here lendings

  -- T, and what stays
  rounding_left : rounding_of s.run.rounding ≡ (left_carried p lent workers r cells choices).rounding
  unfolding run_of
  rounding_left = ap (λ (x : paper.Run tables.State). x.rounding) left_rounded_lem

  sum_here : s.run.rounding.sum ≡ cells_up_to p cells carried_here.passed
  sum_here = ap (λ (x : paper.Rounding). x.sum) rounding_left ∙ carried_here.sum_is

  -- at the end all of the sheet has passed
  module _ (e : ended_of s.run.state ≡ true) where
    all_through : carried_here.passed ≡ length (order p)
    all_through = carried_here.all_passed base_here (ends_rounded e)

    figure_here : (k : ℕ) → k < length (order p) →
        get_or s.publishes (get_or (order p) k 0) 0 ≡ published base (cells_up_to p cells (suc k)) - published base (cells_up_to p cells k)
    figure_here k h = ap (λ (f : List ℕ). get_or f (get_or (order p) k 0) 0) publishes_here ∙ carried_here.figure_is k (omega (arith, all_through))

    others_here : (n : ℕ) → has (order p) n ≡ false → get_or s.publishes n 0 ≡ 0
    others_here n h = ap (λ (f : List ℕ). get_or f n 0) publishes_here ∙ carried_here.others_keep n
        (ap (λ (l : List ℕ). has l n) (take_all carried_here.passed (order p) (omega (arith, all_through))) ∙ h)

    sum_whole : s.run.rounding.sum ≡ cells_up_to p cells (length (order p))
    sum_whole = sum_here ∙ ap (cells_up_to p cells) all_through

    total_here : sum_of s.publishes ≡ published base (cells_up_to p cells (length (order p)))
    total_here = ap sum_of publishes_here ∙ carried_here.total ∙ ap (λ k. published base (cells_up_to p cells k)) all_through

  -- two neighbours in either order
  module _ {a b : Choice} (apart : a.line ≡ b.line → ⊥) {on-a on-b on-b' on-a' : Result Event Refusal} {one other : Run} {m m' f f' : List ℕ}
      (one_way : CarriedCalls cells s.run s.memory s.publishes (a ∷ b ∷ []) (on-a ∷ on-b ∷ []) one m f)
      (other_way : CarriedCalls cells s.run s.memory s.publishes (b ∷ a ∷ []) (on-b' ∷ on-a' ∷ []) other m' f')
      (accepted : Every Accepted (map answer_of (on-a ∷ on-b ∷ []))) (accepted' : Every Accepted (map answer_of (on-b' ∷ on-a' ∷ []))) where
    by_rules : SwappedRounded memory_source (run_of s.run s.memory) cells s.publishes a b
    by_rules = subst (λ (x : paper.Run tables.State). Every Accepted (answers_rounded memory_source x (handed_on memory_source cells x s.publishes (a ∷ b ∷ []))) →
        Every Accepted (answers_rounded memory_source x (handed_on memory_source cells x s.publishes (b ∷ a ∷ []))) → SwappedRounded memory_source x cells s.publishes a b)
        (sym left_rounded_lem)
        ((swapping_rounded (ranged here.valid) here.manned (memory_sheet p here.valid lent) opens_here lendings).swapped cells s.publishes a b apart)
        (subst (Every Accepted) (calls_carry one_way).told_is accepted) (subst (Every Accepted) (calls_carry other_way).told_is accepted')

    swapped_here : (one ≡ other) × (m ≡ m') × (f ≡ f') × (answer_of on-a ≡ answer_of on-a') × (answer_of on-b ≡ answer_of on-b')
    unfolding answers_rounded handed_on
    swapped_here =
        let there = calls_carry one_way in
        let back = calls_carry other_way in
        let (runs, memories) = same_run one other m m' (there.left_is ∙ by_rules.left ∙ sym back.left_is) in (
          runs,
          memories,
          there.figures_are ∙ by_rules.published ∙ sym back.figures_are,
          cc (there.told_is, back.told_is, by_rules.event_a),
          cc (there.told_is, back.told_is, by_rules.event_b),
        )

-- two sessions of one file, pipe, base and cells
module _ {file : List ℕ} (bytes : Bytes file) {w v : ℕ} {m k : List ℕ} {pipe base : ℕ} {cells : List ℕ} {cs ds : List Choice}
    (s : CarriedSession file w m pipe base cells cs) (t : CarriedSession file v k pipe base cells ds) where
  one_here : (here bytes t).plan ≡ (here bytes s).plan
  one_here = one_plan (here bytes t).plan (here bytes s).plan (here bytes t).valid (here bytes s).valid (sym (here bytes t).file_is ∙ (here bytes s).file_is)

  -- the second, of the first one's plan
  there_ends : ended_of t.run.state ≡ true → ended (left_carried (here bytes s).plan k v (starting pipe base) cells ds).machine ≡ true
  there_ends e = subst (λ q. ended (left_carried q k v (starting pipe base) cells ds).machine ≡ true) one_here (ends_rounded bytes t e)

  there_publishes : t.publishes ≡ figures_carried (here bytes s).plan k v (starting pipe base) cells ds
  there_publishes = publishes_here bytes t ∙ ap (λ q. figures_carried q k v (starting pipe base) cells ds) one_here

  figures_same : ended_of s.run.state ≡ true → ended_of t.run.state ≡ true → s.publishes ≡ t.publishes
  figures_same e f =
      publishes_here bytes s ∙
      (rounded_demands (here bytes s).plan (here bytes s).valid).same_figures m k w v (here bytes s).manned (here bytes t).manned
      (starting pipe base) (opens_here bytes s) cells cs ds (ends_rounded bytes s e) (there_ends f) ∙
      sym there_publishes

-- a session's choices under a larger limit, in the same lent memory
module _ {file : List ℕ} (bytes : Bytes file) {w v : ℕ} {m : List ℕ} {pipe base : ℕ} {cells : List ℕ} {cs : List Choice}
    (s : CarriedSession file w m pipe base cells cs) (t : CarriedSession file v m pipe base cells cs) (more : w ≤ v) (accepted : Every Accepted (carried_events s)) where
  abbrev q : Plan
  q = (here bytes s).plan

  abbrev opening_with : ℕ → paper.Run tables.State
  opening_with u = opened_run memory_source (pipeline_of q) u (begun q m) (starting pipe base)

  abbrev zeros : List ℕ
  zeros = replicate (lent_count q.tokens (starting pipe base)) 0

  larger : ReusedHandedOn memory_source (opening_with w) (more_run v (opening_with w)) cells zeros cs
  unfolding opened
  larger = (more_workers_rounded memory_source (opening_with w)).handed_on_lem v more (here bytes t).manned.most cells zeros cs (subst (Every Accepted) (told_rounded bytes s) accepted)

  -- the run with the larger limit is the one that is opened with it
  opened_larger : more_run v (opening_with w) ≡ opening_with v
  unfolding opened
  opened_larger = refl

  abbrev At : Plan → Type 0
  At x =
      let start : paper.Run tables.State = opened_run memory_source (pipeline_of x) v (begun x m) (starting pipe base) in
      let lends : List Lending = handed_on memory_source cells start (replicate (lent_count x.tokens (starting pipe base)) 0) cs in
      (carried_events t ≡ answers_rounded memory_source start lends) × (run_of t.run t.memory ≡ follow_rounded memory_source start lends) ×
      (t.publishes ≡ figures_left memory_source cells start (replicate (lent_count x.tokens (starting pipe base)) 0) cs)

  there : At q
  there = subst At (one_here bytes s t) (told_rounded bytes t, left_rounded_lem bytes t, publishes_here bytes t)

  run_larger : run_of t.run t.memory ≡ more_run v (run_of s.run s.memory)
  unfolding opened
  run_larger = there.1 ∙ larger.left ∙ ap (more_run v) (sym (left_rounded_lem bytes s))

  same_carried : SameCarried s t
  unfolding opened run_of machine_of
  same_carried = record {
    events = there.0 ∙ larger.events ∙ sym (told_rounded bytes s);
    states = ap (λ (x : paper.Run tables.State). but_workers (state_of x.machine)) run_larger;
    memories = ap (λ (x : paper.Run tables.State). x.machine.source.1) run_larger;
    roundings = same_rounding t.run.rounding s.run.rounding (ap (λ (x : paper.Run tables.State). x.rounding) run_larger);
    figures = there.2 ∙ larger.published ∙ sym (publishes_here bytes s);
  }

-- every session with rounding publishes what the paper says
pub code_figures : {file : List ℕ} (bytes : Bytes file) {workers : ℕ} {lent : List ℕ} {pipe base : ℕ} {cells : List ℕ} {choices : List Choice}
    (s : CarriedSession file workers lent pipe base cells choices) → CodeFigures s
code_figures bytes {workers} {lent} {pipe} {base} {cells} {choices} s =
    let h = here bytes s in
    record {
      plan = h.plan;
      valid = h.valid;
      file_is = h.file_is;
      manned = h.manned;
      enough = h.enough;
      opens = opens_here bytes s;
      fits = fits_here bytes s;
      told_is = told_here bytes s;
      left_is = left_here bytes s;
      ended_is = ended_here bytes s;
      never_14 = subst (Every (λ a. a ≡ Refused 14 → ⊥)) (sym (told_here bytes s))
          ((demands h.plan h.valid).runs lent h.enough workers h.manned choices).never_spoiled;
      never_18 = subst (Every (λ a. a ≡ Refused 18 → ⊥)) (sym (told_here bytes s)) (none_18 _ choices);
      carried = carried_here bytes s;
      publishes_is = publishes_here bytes s;
      sum_is = sum_here bytes s;
      pipe_kept = ap (λ (x : paper.Rounding). x.pipe) (rounding_left bytes s) ∙ (rounded_there bytes s).1.pipe_kept;
      base_kept = ap (λ (x : paper.Rounding). x.base) (rounding_left bytes s) ∙ (rounded_there bytes s).1.base_kept;
      figure = figure_here bytes s;
      never_ordered = others_here bytes s;
      sum_total = sum_whole bytes s;
      total = total_here bytes s;
      same_figures = λ t. figures_same bytes s t;
      reused = λ accepted t more. same_carried bytes s t more accepted;
      swapped = λ apart one_way other_way accepted accepted'. swapped_here bytes s apart one_way other_way accepted accepted';
    }
