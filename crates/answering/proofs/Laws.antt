-- What the commands make of the console, case by case.
use mathlib.Core.Path.{◌≡◌, sym, ap, ◌∙◌}
use mathlib.Core.Bool.{Bool, true, false}
use mathlib.Core.List.{List, [], ◌∷◌, ◌++◌}
use Prim.Native.Nat.{ℕ, ◌≤◌, min}
use native.Mathlib.Omega.{arith}
use native.Mathlib.Decide.{dec_le}
use mathlib.Core.Logic.{by_cases}
use lib.ListN.{length, take, drop, drop_of_length-le}
use lib.Seq.{take_all, length-take-le}
use Rattle.vocabulary.specs.Refusals.{number_of}
use Rattle.vocabulary.specs.declared.refusal.Refusal.{Refusal}
use Rattle.rules.specs.Answers.{answer_of}
use Rattle.rules.specs.Lists.{if}
use Rattle.rules.specs.Choices as rules
use Rattle.rules.specs.Rounding as paper
use Rattle.rules.specs.RoundedOffers.{take_rounded}
use Rattle.plan.specs.declared.trailer.Header.{Header}
use Rattle.std.specs.Prelude.{Result, Ok, Err}
use Rattle.tables.specs.State as tables
use Rattle.tables.specs.Calls.{memory_source}
use Rattle.state.specs.Machines.{machine_of}
use Rattle.state.specs.Ending.{ended_of}
use Rattle.opening.specs.declared.Opened.{Opened}
use Rattle.opening.specs.Opened.{open_of}
use Rattle.rounding.specs.declared.run.Run.{Run}
use Rattle.rounding.specs.Runs.{run_of, without_rounding}
use Rattle.rounded.specs.declared.Chosen.{Chosen}
use Rattle.rounded.specs.Runs.{lent, chosen_of}
use Rattle.rounded_opening.specs.declared.Opened as rounded
use Rattle.rounded_opening.specs.RoundedOpenings.{RoundedOpening, open_rounded_of}
use Rattle.marking.specs.declared.Marking.{Marking}
use Rattle.marking.specs.Marking.{verdict_of}
use Rattle.sink.specs.Sinks.{Output, put_of, put_each}
use Rattle.sink.proofs.Putting.{put_one}
use Rattle.printing.specs.Texts.{line_texts, refusal_texts, answer_texts}
use Rattle.session.specs.Begun.{is_accepted}
use Rattle.session.specs.Printed.{closing_texts}
use Rattle.vocabulary.specs.declared.event.Event.{Event}
use Rattle.commands.specs.declared.Choice.{Choice}
use Rattle.commands.specs.declared.RoundingAt.{RoundingAt}
use Rattle.commands.specs.declared.Command.{Command}
use Rattle.answering.specs.Lines.{header_texts, reading_texts, opening_texts, wrong_texts, marking_texts}
use Rattle.answering.specs.Answers.{Held, lent_cells, lent_figures, with_output, told, opened_in, opened_rounded_in, after_opening, after, chosen_in, offered_in, taken_in, figures_in, sum_in, ended_in, answered}

module _ (o : Output) {r : Output} where
  -- a plan file
  pub reads_plan : {a : Result Header Refusal} {h : Header} → a ≡ Ok h → r ≡ put_each o (header_texts h) → r ≡ put_each o (reading_texts a)
  unfolding reading_texts
  reads_plan e r-is = rw e r-is

  pub reads_none : {a : Result Header Refusal} {why : Refusal} → a ≡ Err why → r ≡ put_each o (refusal_texts (number_of why)) →
      r ≡ put_each o (reading_texts a)
  unfolding reading_texts
  reads_none e r-is = rw e r-is

  -- an opening
  pub opens : {a : Result (Unit {0}) Refusal} → a ≡ Ok tt → r ≡ put_of o (65 ∷ 10 ∷ []) → r ≡ put_each o (opening_texts a)
  unfolding opening_texts
  opens e r-is = rw e (put_one o (65 ∷ 10 ∷ []) r-is)

  pub opens_not : {a : Result (Unit {0}) Refusal} {why : Refusal} → a ≡ Err why → r ≡ put_each o (refusal_texts (number_of why)) →
      r ≡ put_each o (opening_texts a)
  unfolding opening_texts
  opens_not e r-is = rw e r-is

  -- a journal
  pub wrong_put : (i : ℕ) {n m : ℕ} → n ≡ m → r ≡ put_each o (line_texts (119 ∷ 114 ∷ 111 ∷ 110 ∷ 103 ∷ []) (i ∷ n ∷ [])) → r ≡ put_each o (wrong_texts i m)
  unfolding wrong_texts
  wrong_put i n-is r-is = rw (← n-is) r-is

  pub marks_complete : {k : Marking} → k ≡ Marking.Complete → r ≡ put_of o (99 ∷ 111 ∷ 109 ∷ 112 ∷ 108 ∷ 101 ∷ 116 ∷ 101 ∷ 10 ∷ []) → r ≡ put_each o (marking_texts (verdict_of k))
  unfolding marking_texts
  marks_complete e r-is = rw e (put_one o _ r-is)

  pub marks_so_far : {k : Marking} → k ≡ Marking.CorrectSoFar → r ≡ put_of o (99 ∷ 111 ∷ 114 ∷ 114 ∷ 101 ∷ 99 ∷ 116 ∷ 32 ∷ 115 ∷ 111 ∷ 32 ∷ 102 ∷ 97 ∷ 114 ∷ 10 ∷ []) → r ≡ put_each o (marking_texts (verdict_of k))
  unfolding marking_texts
  marks_so_far e r-is = rw e (put_one o _ r-is)

  pub marks_wrong : {k : Marking} {i : ℕ} {why : Refusal} → k ≡ Marking.Wrong i why → r ≡ put_each o (wrong_texts i (number_of why)) →
      r ≡ put_each o (marking_texts (verdict_of k))
  unfolding marking_texts
  marks_wrong e r-is = rw e r-is

  pub marks_none : {k : Marking} {why : Refusal} → k ≡ Marking.NotOpened why → r ≡ put_each o (refusal_texts (number_of why)) →
      r ≡ put_each o (marking_texts (verdict_of k))
  unfolding marking_texts
  marks_none e r-is = rw e r-is

-- the first elements of a list, as many as there are
module _ (l : List ℕ) (n : ℕ) {k : ℕ} (k-is : k ≡ min n (length l)) where
  pub lent_within : k ≤ length l
  lent_within = omega arith

  pub lent_size : k ≡ length (take k l)
  lent_size = sym (length-take-le k l lent_within)

  first_lent : take k l ≡ take n l
  first_lent =
      by_cases (dec_le n (length l)) (λ h. let e : k ≡ n = omega arith in ap (λ i. take i l) e)
      (λ h. take_all k l (omega arith) ∙ sym (take_all n l (omega arith)))

  rest_kept : drop k l ≡ drop n l
  rest_kept =
      by_cases (dec_le n (length l)) (λ h. let e : k ≡ n = omega arith in ap (λ i. drop i l) e)
      (λ h. let m : length l ≤ k = omega arith in let o : length l ≤ n = omega arith in drop_of_length-le l m ∙ sym (drop_of_length-le l o))

-- what a choice leaves, where so many figures were lent
abbrev left_by : Held → ℕ → Chosen → List ℕ → List ℕ → Output → Held
left_by c n chosen memory part r = record {
  run = chosen.run;
  lent = c.lent;
  memory = memory;
  cells = c.cells;
  figures = part ++ drop n c.figures;
  output = r;
}

-- the console after a choice, made with the first cells and figures
module _ (c : Held) {m n : ℕ} (m-is : m ≡ min c.lent (length c.cells)) (n-is : n ≡ min c.lent (length c.figures)) where
  with_cells : take m c.cells ≡ lent_cells c
  with_cells = first_lent c.cells c.lent m-is

  with_figures : take n c.figures ≡ lent_figures c
  with_figures = first_lent c.figures c.lent n-is

  module _ (chosen : Chosen) {memory : List ℕ} (part : List ℕ) {r : Output} (r-is : r ≡ put_each c.output (answer_texts (answer_of chosen.answer))) where
    after_is : {made : paper.RoundedChosen tables.State} → chosen_of chosen memory part ≡ made → left_by c n chosen memory part r ≡ after made c
    unfolding chosen_of run_of machine_of after
    after_is e = rw (r-is, rest_kept c.figures c.lent n-is) (ap (λ made. after made c) e)

    pub chosen_is : (choice : Choice) → chosen_of chosen memory part ≡ paper.choose_rounded memory_source (run_of c.run c.memory)
        (lent choice.worker.0 choice.line.0 (take m c.cells) (take n c.figures)) → left_by c n chosen memory part r ≡ chosen_in choice c
    unfolding chosen_in
    chosen_is choice e = after_is (rw (with_cells, with_figures) at e)

    pub taken_is : (event : Event) → chosen_of chosen memory part ≡ take_rounded memory_source (run_of c.run c.memory) event
        (take m c.cells) (take n c.figures) → left_by c n chosen memory part r ≡ taken_in event c
    unfolding taken_in
    taken_is event e = after_is (rw (with_cells, with_figures) at e)

  -- an offer changes nothing
  pub offered_is : (choice : Choice) {r : Output} {a : rules.Answer} → a ≡ (paper.choose_rounded memory_source (run_of c.run c.memory)
      (lent choice.worker.0 choice.line.0 (take m c.cells) (take n c.figures))).answer →
      r ≡ put_each c.output (answer_texts a) → with_output c r ≡ offered_in choice c
  unfolding offered_in told
  offered_is choice e r-is = rw (← with_cells, ← with_figures) (ap (with_output c) (r-is ∙ ap (λ a. put_each c.output (answer_texts a)) e))

module _ (file : List ℕ) (c : Held) where
  -- the console after an opening
  pub opened_is : (workers : ℕ) {opened : Opened} {run : Run} {memory : List ℕ} {r : Output} → opened ≡ (open_of file workers c.memory).0 →
      run ≡ without_rounding opened.state → memory ≡ (open_of file workers c.memory).1 → r ≡ put_each c.output (opening_texts opened.answer) →
      ◌≡◌ {A = Held} (record { run = run; lent = 0; memory = memory; cells = c.cells; figures = c.figures; output = r }) (opened_in file workers c)
  unfolding opened_in
  opened_is workers e run_is memory_is r-is = rw (run_is, r-is, e, memory_is)

-- and after one with rounding, made with the first cells and figures
module _ (file : List ℕ) (asked : RoundingAt) (many : ℕ) (c : Held) {m n : ℕ} (m-is : m ≡ min many (length c.cells))
    (n-is : n ≡ min many (length c.figures)) where
  abbrev opening : RoundedOpening
  opening = open_rounded_of file asked.workers asked.pipe.0 asked.base c.memory (take m c.cells) (take n c.figures)

  pub rounded_is : {opened : rounded.Opened} {memory : List ℕ} (part : List ℕ) {count : ℕ} {r : Output} → opened ≡ opening.returned →
      memory ≡ opening.memory → part ≡ opening.figures → count ≡ if (is_accepted opened.answer) many 0 →
      r ≡ put_each c.output (opening_texts opened.answer) →
      ◌≡◌ {A = Held} (record {
        run = opened.run;
        lent = count;
        memory = memory;
        cells = c.cells;
        figures = part ++ drop n c.figures;
        output = r;
      }) (opened_rounded_in file asked many c)
  unfolding opened_rounded_in after_opening
  rounded_is part e memory_is part-is count_is r-is =
      rw (r-is, count_is, e, memory_is, part-is, ← first_lent c.cells many m-is, ← first_lent c.figures many n-is, rest_kept c.figures many n-is)

-- how many cells are lent after an opening
module _ {a : Result (Unit {0}) Refusal} (many : ℕ) where
  pub lent_all : a ≡ Ok tt → many ≡ if (is_accepted a) many 0
  lent_all e = rw e

  pub lent_none : {why : Refusal} → a ≡ Err why → 0 ≡ if (is_accepted a) many 0
  lent_none e = rw e

-- a command is answered by its kind
pub answers : (file : List ℕ) (c : Held) {d : Held} {command made : Command} → command ≡ made → d ≡ answered file made c →
    d ≡ answered file command c
answers file c e d-is = rw e d-is

module _ (c : Held) where
  -- the console after a line as it stands
  pub told_is : {r : Output} (text : List ℕ) → r ≡ put_of c.output text → with_output c r ≡ told (text ∷ []) c
  unfolding told
  told_is text r-is = ap (with_output c) (put_one c.output text r-is)

  -- the lent figures
  pub figures_told : {n : ℕ} → n ≡ min c.lent (length c.figures) → {r : Output} →
      r ≡ put_each c.output (line_texts (67 ∷ []) (take n c.figures)) → with_output c r ≡ figures_in c
  unfolding figures_in told
  figures_told n-is r-is = ap (with_output c) (r-is ∙ ap (λ l. put_each c.output (line_texts (67 ∷ []) l)) (first_lent c.figures c.lent n-is))

  -- the run's T
  pub sum_told : {r : Output} → r ≡ put_each c.output (line_texts (84 ∷ []) (c.run.rounding.sum ∷ [])) → with_output c r ≡ sum_in c
  unfolding sum_in told
  sum_told r-is = ap (with_output c) r-is

  -- whether the run has ended
  pub ended_is : {d : Held} {b : Bool} → b ≡ ended_of c.run.state → b ≡ true → d ≡ told ((69 ∷ 10 ∷ []) ∷ []) c → d ≡ ended_in c
  unfolding ended_in closing_texts
  ended_is b_is t d-is = rw (sym b_is ∙ t) d-is

  pub not_ended_is : {d : Held} {b : Bool} → b ≡ ended_of c.run.state → b ≡ false → d ≡ told ((79 ∷ 10 ∷ []) ∷ []) c → d ≡ ended_in c
  unfolding ended_in closing_texts
  not_ended_is b_is t d-is = rw (sym b_is ∙ t) d-is
