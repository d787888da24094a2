-- Demand 3, for the pipeline over any source of tokens.
use mathlib.Core.Path.{◌≡◌, refl, sym, ap, subst, ◌∙◌}
use mathlib.Core.Bool.{true, false}
use mathlib.Core.List.{List, ◌++◌, append-nil}
use Prim.Native.Nat.{ℕ, ◌+◌, ◌*◌, ◌%◌, ◌≤◌, ◌<◌}
use native.Mathlib.Nat.{mod-le, mod-lt}
use native.Mathlib.Omega.{arith}
use lib.ListN.{length}
use lib.Seq.{drop-length}
use Rattle.rules.specs.Lists.{Every}
use Rattle.rules.specs.RunState.{Pipeline, Machine}
use Rattle.rules.specs.Sources.{Source}
use Rattle.rules.specs.Choices.{Choice, Chosen, Answer, Started, Finished, Stopped, Refused, opened, choose, choose_by, ended}
use Rattle.rules.specs.WholeRuns.{PipelineInRange, WorkersInRange, Sheet, events, end, WholeRun}
use Rattle.rules.specs.WholeRuns.{ordered, Accepted, accepted, last_of, starts_of, finishes_of, final, one_worker, Carries, with_workers}
use Rattle.rules.specs.Workers.{OneLineEach}
use Rattle.rules.specs.PlainSheet.{Row, rows}
use Rattle.rules.proofs.lists.Sums.{total, total_zero}
use Rattle.rules.proofs.standing.Standing.{serial_at, to_start, to_finish, start_from, finish_from}
use Rattle.rules.proofs.invariant.Invariant.{Allowed, whole}
use Rattle.rules.proofs.choices.Opening.{at_opening, opening, opening_inv, start_opening, finish_opening}
use Rattle.rules.proofs.choices.Moves.{Move, stops, enters, starts, finishes, Ready, next_answer}
use Rattle.rules.proofs.choices.Steps.{refuses, moves, step}
use Rattle.rules.proofs.choices.LineAlone.{line_alone}
use Rattle.rules.proofs.choices.Trace.{Ran, ran}
use Rattle.rules.proofs.runs.Order.{rows_from, order_part, never_spoiled, events_carry}
use Rattle.rules.proofs.runs.Ending.{Over, over_ended, ended_over}
use Rattle.rules.proofs.runs.Progress.{some_move, move_accepted}
use Rattle.rules.proofs.runs.Count.{left, left_first, takes, balance, over_count, count_over}
use Rattle.rules.proofs.runs.Final.{is_final, place_from}
use Rattle.rules.proofs.runs.Marks.{mark, mark_done, mark_due, mark_one, starts_marked, finishes_marked}
use Rattle.rules.proofs.runs.OneWorker.{one_worker_lem, length_one_worker}
use Rattle.rules.proofs.runs.OneLineEach.{one_line_each}
use Rattle.rules.proofs.choices.Answers.{started-accepted, all-counted, length-answers, split}

module _ {X : Type 0} {S : Source X} {plan : Pipeline} (ranged : PipelineInRange plan)
    {workers : ℕ} (manned : WorkersInRange workers) {x : X} {order : List ℕ} {z : X}
    (sheet : Sheet S plan x order z) where
  pub allowed : Allowed plan workers order
  allowed = record { ranged = ranged; manned = manned; fits = sheet.fits; known = sheet.known }

  module _ (cs : List Choice) where
    -- what the run answers, and where it leads
    abbrev told : List Answer
    told = events S plan workers x cs

    abbrev left_at : Machine X
    left_at = end S plan workers x cs

    pub run : Ran S plan workers order z (opening plan x) at_opening cs
    run = ran allowed cs (opening plan x) at_opening (opening_inv ranged manned sheet.writes)

    pub left_is : left_at ≡ whole plan workers run.end
    unfolding opened
    left_is = run.is

    pub over : ended left_at ≡ true → Over plan order z run.end run.last
    over e = ended_over allowed run.kept (ap ended (sym left_is) ∙ e)

    -- (a) the order
    order_so_far : ordered told ++ rows_from plan order run.end.placed ≡ rows plan.lines 0 order
    unfolding opened
    order_so_far = order_part run.trace

    whole_order : ended left_at ≡ true → ordered told ≡ rows plan.lines 0 order
    unfolding rows
    whole_order e =
        sym (append-nil (ordered told)) ∙ ap (λ (r : List Row). ordered told ++ r) (sym (rw ((over e).placed, drop-length order))) ∙ order_so_far

    -- (b) the count
    balanced : accepted told + total (left plan run.last) plan.lines ≡ 2 * (plan.pipes * takes run.end)
    unfolding opened
    balanced = omega (arith, balance ranged run.trace, total_zero (left plan at_opening) plan.lines (λ j h. left_first plan at_opening j refl refl))

    -- (d) the events
    carried : Every (Carries plan order) told
    unfolding opened
    carried = events_carry ranged run.trace

    started_marks : (p k : ℕ) → p < plan.pipes → k < length order → starts_of p k told ≡ mark k (to_start plan run.last (k % plan.lines) p)
    unfolding opened
    started_marks p k h i = omega (
      arith,
      starts_marked ranged p k h i run.trace,
      mark_due k (to_start plan at_opening (k % plan.lines) p) (rw (start_opening ranged (k % plan.lines) p) (mod-le k plan.lines)),
    )

    finished_marks : (p k : ℕ) → p < plan.pipes → k < length order → finishes_of p k told ≡ mark k (to_finish plan run.last (k % plan.lines) p)
    unfolding opened
    finished_marks p k h i = omega (
      arith,
      finishes_marked ranged p k h i run.trace,
      mark_due k (to_finish plan at_opening (k % plan.lines) p) (rw (finish_opening ranged (k % plan.lines) p) (mod-le k plan.lines)),
    )

    all_marked : ended left_at ≡ true → (p k : ℕ) → p < plan.pipes → k < length order → (starts_of p k told ≡ 1) × (finishes_of p k told ≡ 1)
    all_marked e p k h i =
        let l : ℕ = k % plan.lines in
        let far : k < run.last.place l = omega (arith, place_from allowed run.kept (over e) l (mod-lt k ranged.lines_some)) in (
          started_marks p k h i ∙ mark_done k (to_start plan run.last l p) (omega (arith, start_from ranged run.last l p)),
          finished_marks p k h i ∙ mark_done k (to_finish plan run.last l p) (omega (arith, finish_from ranged run.last l p)),
        )

    -- where a line may start at a serial pipe, every place before its own has finished there
    before_ready : (i p k : ℕ) → Ready plan run.last i → run.last.pipe i ≡ p → run.last.place i ≡ k → k < length order →
        serial_at plan p ≡ true → (j : ℕ) → j < k → finishes_of p j told ≡ 1
    before_ready i p k r e f h s j b =
        let q : p < plan.pipes = omega (arith, e, run.kept.good.at i r.within) in
        let c : run.last.passed p ≡ k = ap run.last.passed (sym e) ∙ sym (r.turns (ap (serial_at plan) e ∙ s)) ∙ f in
        let d : k ≤ to_finish plan run.last (j % plan.lines) p =
        omega (arith, c, run.kept.good.low (j % plan.lines) p (mod-lt j ranged.lines_some) q s) in
        finished_marks p j q (omega arith) ∙ mark_done j (to_finish plan run.last (j % plan.lines) p) (omega arith)

    -- so a choice that starts a place there comes after those that finished the places before
    start_in_turn : (c : Choice) (l p t k w : ℕ) → (choose_by S left_at c).answer ≡ Started l p t k w → serial_at plan p ≡ true → (j : ℕ) → j < k → finishes_of p j told ≡ 1
    start_in_turn c l p t k w e s =
        let i : ℕ = c.line in
        let d : Chosen X = choose_by S (whole plan workers run.end) c in
        let u : d.answer ≡ Started l p t k w = ap (λ (m : Machine X). (choose_by S m c).answer) (sym left_is) ∙ e in
        elim (step allowed run.kept c.worker i) [
          | refuses n d q ↦ absurd (started-accepted n (sym u ∙ ap (λ (c : Chosen X). c.answer) q))
          | moves m ↦ elim m [
            | stops st' f n ↦
                let v : d.answer ≡ Stopped i c.worker = next_answer S plan workers order z n in
                let w : ◌≡◌ {A = ℕ} 0 1 = cc in absurd (omega arith)
            | finishes st' f n ↦
                let v : d.answer ≡ Finished i _ _ _ c.worker = next_answer S plan workers order z n in
                let w : ◌≡◌ {A = ℕ} 0 1 = cc in absurd (omega arith)
            | enters st' f n ↦
                let v : d.answer ≡ Started i 0 _ (run.last.place i) c.worker = next_answer S plan workers order z n in
                let a : 0 ≡ p = cc in
                let b : run.last.place i ≡ k = cc in
                before_ready i p k f.ready (f.first ∙ a) b (omega (arith, f.ordered)) s
            | starts st' f n ↦
                let v : d.answer ≡ Started i (run.last.pipe i) _ (run.last.place i) c.worker = next_answer S plan workers order z n in
                let a : run.last.pipe i ≡ p = cc in
                let b : run.last.place i ≡ k = cc in
                before_ready i p k f.ready a b (omega (arith, f.ordered)) s
          ]
        ]

    -- (e) no answer is 14, and the run can go on
    unspoiled : Every (λ a. a ≡ Refused 14 → ⊥) told
    unfolding opened
    unspoiled = never_spoiled run.trace

    accepted_here : (w l : ℕ) → Move S plan workers order z run.end run.last w l (choose S (whole plan workers run.end) w l) →
        Accepted (choose S left_at w l).answer
    accepted_here w l m = rw left_is (move_accepted m)

    next_move : ended left_at ≡ false → (c : Choice) × (c.worker < workers) × (c.line < plan.lines) × Accepted (choose_by S left_at c).answer
    next_move e =
        let r = some_move allowed run.kept (ap ended (sym left_is) ∙ e) in
        (record { worker = r.0; line = r.1 }, r.2.worker, r.2.line, accepted_here r.0 r.1 r.2.makes)

    -- no worker runs two of the lines there
    each_here : OneLineEach left_at.slots left_at.lines
    each_here = subst (λ n. OneLineEach left_at.slots n) (sym (ap (λ (m : Machine X). m.lines) left_is)) (one_line_each ranged manned sheet cs)

  -- every list of choices, of any numbers, makes a run as demand 3 says
  pub whole_run : (cs : List Choice) → WholeRun S plan workers x cs order z
  whole_run cs = record {
    order_part = (rows_from plan order (run cs).end.placed, order_so_far cs);
    order_whole = whole_order cs;
    count = (
      λ e. over_count allowed (run cs).kept _ (balanced cs) (over cs e),
      λ e. ap ended (left_is cs) ∙ over_ended allowed (run cs).kept (count_over allowed (run cs).kept _ (balanced cs) e),
    );
    end_state_lem = λ e. left_is cs ∙ is_final allowed (run cs).kept (over cs e);
    carries = carried cs;
    at_most_once = λ p k h i. (rw (started_marks cs p k h i) (mark_one k _), rw (finished_marks cs p k h i) (mark_one k _));
    each_once = all_marked cs;
    in_turn_lem = λ before after l p t k w e s j h.
        let r = split S (opened plan workers x) cs before (Started l p t k w) after e in
        ap (finishes_of p j) (sym r.is) ∙ start_in_turn r.earlier r.choice l p t k w r.gives s j h;
    never_spoiled = unspoiled cs;
    goes_on = next_move cs;
    one_line_each = one_line_each ranged manned sheet cs;
    line_alone = line_alone S (left_at cs) (each_here cs);
  }

module _ {X : Type 0} {S : Source X} {plan : Pipeline} (ranged : PipelineInRange plan) {x : X} {order : List ℕ} {z : X} (sheet : Sheet S plan x order z) where
  -- (c) two runs that have ended, with whatever workers and choices, have left the same but for the workers
  pub same_end : {w v : ℕ} → WorkersInRange w → WorkersInRange v → (cs ds : List Choice) →
      ended (end S plan w x cs) ≡ true → ended (end S plan v x ds) ≡ true →
      (n : ℕ) → with_workers n (end S plan w x cs) ≡ with_workers n (end S plan v x ds)
  unfolding final
  same_end mw mv cs ds e f n =
      ap (with_workers n) ((whole_run ranged mw sheet cs).end_state_lem e) ∙ sym (ap (with_workers n) ((whole_run ranged mv sheet ds).end_state_lem f))

  one_manned : WorkersInRange 1
  one_manned = record { some = omega arith; most = omega arith }

  -- (f) the one-worker run: all its choices are accepted, the last stops, and it has ended
  pub one_worker_accepted : Every Accepted (events S plan 1 x (one_worker plan 0 (length order))) ×
      ((a : Answer) → last_of a (events S plan 1 x (one_worker plan 0 (length order))) ≡ Stopped (length order % plan.lines) 0)
  unfolding opened
  one_worker_accepted = one_worker_lem S plan order z (allowed ranged one_manned sheet) (length order) 0 (omega arith) (opening plan x) at_opening
      (record { kept = opening_inv ranged one_manned sheet.writes; live = refl; placed = refl; first = λ j h. refl; rests = λ j h. refl })

  -- so the one-worker run has ended
  pub one_worker_ends : ended (end S plan 1 x (one_worker plan 0 (length order))) ≡ true
  one_worker_ends =
      let cs : List Choice = one_worker plan 0 (length order) in
      (whole_run ranged one_manned sheet cs).count.1
      (all-counted (events S plan 1 x cs) one_worker_accepted.0 ∙ length-answers S (opened plan 1 x) cs ∙ length_one_worker plan 0 (length order))
