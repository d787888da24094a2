-- Marking a journal says what the choices that give its events say.
use mathlib.Core.Path.{◌≡◌, refl, sym, ap, subst, ◌∙◌}
use mathlib.Core.Bool.{Bool, true, false}
use mathlib.Core.List.{List, [], ◌∷◌, ◌++◌}
use Prim.Native.Nat.{ℕ, zero, suc, ◌+◌, ◌<◌, ◌≤◌}
use native.Mathlib.Omega.{arith}
use lib.Dec.{eqb}
use lib.ListN.{length, take, drop, take-append-drop}
use lib.Seq.{take-append-le, take-append_seam, drop-append_seam}
use Rattle.vocabulary.specs.declared.event.EventRecord.{EventRecord}
use Rattle.vocabulary.specs.Events.{same_record}
use Rattle.rules.specs.Lists.{if, keep}
use Rattle.rules.specs.Sources.{Source}
use Rattle.rules.specs.RunState.{Machine}
use Rattle.rules.specs.Choices.{Answer, Started, Finished, Stopped, Refused, Choice, Chosen, refuse, ended, choose_by, answers, follow}
use Rattle.rules.specs.WholeRuns.{Accepted, accepted, ordered}
use Rattle.rules.specs.Offers.{is_refused, record_of, named, take_record}
use Rattle.rules.specs.MoreWorkers.{is_event}
use Rattle.rules.specs.Journals.{Verdict, Complete, CorrectSoFar, Wrong, NotOpened, Marked, goes_on, closing, unless_refused, mark_events, mark_more, journal_of, order_in}
use Rattle.rules.specs.Journals.{Gives, Given, FirstWrong, JournalMarked}
use Rattle.rules.proofs.lists.Tests.{by_test, never, holds, fails, see}
use Rattle.rules.proofs.choices.Outcomes.{refused_unchanged}
use Rattle.rules.proofs.choices.Offered.{same_itself, same_fields, not_refused, names_choice, only_refused, only_other, only_same}
use Rattle.rules.proofs.runs.AcceptedOnly.{event, refusal, kind}

-- an event is no refusal
unless_accepted : {A : Type 0} (a : Answer) (turned : ℕ → A) (rest : A) → Accepted a → unless_refused a turned rest ≡ rest
unless_accepted (Started l p t k w) turned rest ok = refl
unless_accepted (Finished l p t k w) turned rest ok = refl
unless_accepted (Stopped l w) turned rest ok = refl
unless_accepted (Refused n) turned rest ok = absurd (ok n refl)

-- the order of a run's journal is that of the run, and it has an event for each choice that was accepted
pub journal_order : (told : List Answer) → order_in (journal_of told) ≡ ordered told
unfolding order_in ordered keep is_event
journal_order [] = refl
journal_order (Started l p t k w ∷ told) = by_test (eqb p 0)
    (λ e. rw (e, journal_order told))
    (λ e. rw (e, journal_order told))
journal_order (Finished l p t k w ∷ told) = journal_order told
journal_order (Stopped l w ∷ told) = journal_order told
journal_order (Refused n ∷ told) = journal_order told

pub journal_length : (told : List Answer) → length (journal_of told) ≡ accepted told
unfolding accepted keep is_event
journal_length [] = refl
journal_length (Started l p t k w ∷ told) = ap suc (journal_length told)
journal_length (Finished l p t k w ∷ told) = ap suc (journal_length told)
journal_length (Stopped l w ∷ told) = ap suc (journal_length told)
journal_length (Refused n ∷ told) = journal_length told

-- no verdict but one goes on
goes_so_far : (v : Verdict) → goes_on v ≡ true → v ≡ CorrectSoFar
goes_so_far Complete e = absurd (never (sym e))
goes_so_far CorrectSoFar e = refl
goes_so_far (Wrong i n) e = absurd (never (sym e))
goes_so_far (NotOpened n) e = absurd (never (sym e))

-- the verdict when no event is left, by whether the run has ended
over_complete : (b : Bool) → if b Complete CorrectSoFar ≡ Complete → b ≡ true
over_complete true e = refl
over_complete false e = let z : ◌≡◌ {A = ℕ} 0 1 = cc in absurd (omega arith)

over_so_far : (b : Bool) → if b Complete CorrectSoFar ≡ CorrectSoFar → b ≡ false
over_so_far true e = let z : ◌≡◌ {A = ℕ} 0 1 = cc in absurd (omega arith)
over_so_far false e = refl

over_wrong : (b : Bool) {i n : ℕ} → if b Complete CorrectSoFar ≡ Wrong i n → ⊥
over_wrong true e = let z : ◌≡◌ {A = ℕ} 0 1 = cc in omega arith
over_wrong false e = let z : ◌≡◌ {A = ℕ} 0 1 = cc in omega arith

over_unopened : (b : Bool) {n : ℕ} → if b Complete CorrectSoFar ≡ NotOpened n → ⊥
over_unopened true e = let z : ◌≡◌ {A = ℕ} 0 1 = cc in omega arith
over_unopened false e = let z : ◌≡◌ {A = ℕ} 0 1 = cc in omega arith

-- a first part of a list that ends within xs is one of xs; one that reaches past xs has the element after it
take_within : {A : Type 0} (j : ℕ) (xs ys : List A) → j ≤ length xs → xs ≡ take j (xs ++ ys) ++ drop j xs
take_within j xs ys h = sym (take-append-drop j xs) ∙ ap (λ l. l ++ drop j xs) (sym (take-append-le j xs ys h))

take_beyond : {A : Type 0} (j : ℕ) (xs : List A) (y : A) (ys : List A) → length xs < j → (zs : List A) × (take j (xs ++ (y ∷ ys)) ≡ xs ++ (y ∷ zs))
take_beyond zero xs y ys h = absurd (omega (arith, h))
take_beyond (suc j) [] y ys h = (take j ys, refl)
take_beyond (suc j) (x ∷ xs) y ys h = let (zs, e) = take_beyond j xs y ys (omega (arith, h)) in (zs, ap (λ l. x ∷ l) e)

accepted_event : (a : Answer) → Accepted a → is_event a ≡ true
accepted_event a ok = elim (kind a) [
  | event e here ↦ e
  | refusal e n q ↦ absurd (ok n q)
]

module _ {X : Type 0} (S : Source X) where
  abbrev passed : Machine X → Marked X
  passed m = record { verdict = CorrectSoFar; machine = m }

  abbrev wrong_at : Machine X → ℕ → ℕ → Marked X
  wrong_at m i n = record { verdict = Wrong i n; machine = m }

  -- the choice that a record names is refused and changes nothing, or it is made, and gives the record's event
  data Takes (m : Machine X) (r : EventRecord) : Type 0 where
    turned : (n : ℕ) → take_record S m r 20 ≡ refuse m n → Takes m r
    made : Accepted (choose_by S m (named r)).answer → record_of (choose_by S m (named r)).answer ≡ r → take_record S m r 20 ≡ choose_by S m (named r) → Takes m r

  takes : (m : Machine X) (r : EventRecord) → Takes m r
  takes m r =
      let c : Chosen X = choose_by S m (named r) in
      let same : Bool = same_record (record_of c.answer) r in
      elim (kind c.answer) [
        | refusal e n q ↦
            let unchanged = refused_unchanged S m r.worker r.line n q in
            turned n (only_refused m same 20 c (ap is_refused q) ∙ (λ i. record { answer = q i; machine = unchanged i }))
        | event e ok ↦ elim (see same) [
          | holds s ↦ made ok (same_fields (record_of c.answer) r s) (only_same m same 20 c s)
          | fails d ↦ turned 20 (only_other m same 20 c (not_refused c.answer ok) d)
        ]
      ]

  -- one event, by these
  event_turned : (m : Machine X) (i : ℕ) (r : EventRecord) (rs : List EventRecord) (n : ℕ) → take_record S m r 20 ≡ refuse m n → mark_events S m i (r ∷ rs) ≡ wrong_at m i n
  unfolding mark_events
  event_turned m i r rs n e = ap (λ (c : Chosen X). unless_refused c.answer (wrong_at m i) (mark_events S c.machine (suc i) rs)) e

  event_made : (m : Machine X) (i : ℕ) (r : EventRecord) (rs : List EventRecord) → Accepted (choose_by S m (named r)).answer → take_record S m r 20 ≡ choose_by S m (named r) →
      mark_events S m i (r ∷ rs) ≡ mark_events S (choose_by S m (named r)).machine (suc i) rs
  unfolding mark_events
  event_made m i r rs ok e =
      ap (λ (c : Chosen X). unless_refused c.answer (wrong_at m i) (mark_events S c.machine (suc i) rs)) e
      ∙ unless_accepted (choose_by S m (named r)).answer (wrong_at m i) (mark_events S (choose_by S m (named r)).machine (suc i) rs) ok

  mark_none : (m : Machine X) (i : ℕ) → mark_events S m i [] ≡ passed m
  unfolding mark_events
  mark_none m i = refl

  -- one event: by what its choice, made only if it gives the event, answers and leaves
  pub mark_one : (m : Machine X) (i : ℕ) (r : EventRecord) → mark_events S m i (r ∷ []) ≡
      record { verdict = unless_refused (take_record S m r 20).answer (Wrong i) CorrectSoFar; machine = (take_record S m r 20).machine }
  mark_one m i r = elim (takes m r) [
    | turned n e ↦ event_turned m i r [] n e ∙ ap (λ (c : Chosen X). record { verdict = unless_refused c.answer (Wrong i) CorrectSoFar; machine = c.machine }) (sym e)
    | made ok r-is e ↦
        event_made m i r [] ok e
        ∙ mark_none (choose_by S m (named r)).machine (suc i)
        ∙ ap (λ v. record { verdict = v; machine = (choose_by S m (named r)).machine }) (sym (unless_accepted (choose_by S m (named r)).answer (Wrong i) CorrectSoFar ok))
        ∙ ap (λ (c : Chosen X). record { verdict = unless_refused c.answer (Wrong i) CorrectSoFar; machine = c.machine }) (sym e)
  ]

  -- the event of an accepted choice
  event_given : (m : Machine X) (c : Choice) (i : ℕ) (rs : List EventRecord) → Accepted (choose_by S m c).answer →
      mark_events S m i (record_of (choose_by S m c).answer ∷ rs) ≡ mark_events S (choose_by S m c).machine (suc i) rs
  event_given m c i rs ok =
      let r : EventRecord = record_of (choose_by S m c).answer in
      let here : choose_by S m (named r) ≡ choose_by S m c = ap (choose_by S m) (names_choice S m c.worker c.line ok) in
      let same : same_record (record_of (choose_by S m (named r)).answer) r ≡ true = ap (λ k. same_record (record_of k.answer) r) here ∙ same_itself r in
      event_made m i r rs (subst (λ k. Accepted k.answer) (sym here) ok) (only_same m (same_record (record_of (choose_by S m (named r)).answer) r) 20 (choose_by S m (named r)) same)
      ∙ ap (λ k. mark_events S k.machine (suc i) rs) here

  -- the events that a list of choices gives all pass, and marking leaves the run that the choices leave
  pub given_passes : (cs : List Choice) (m : Machine X) (i : ℕ) → mark_events S m i (journal_of (answers S m cs)) ≡ passed (follow S m cs)
  unfolding answers follow keep
  given_passes [] m i = mark_none m i
  given_passes (c ∷ cs) m i = elim (kind (choose_by S m c).answer) [
    | refusal e n q ↦
        let unchanged : (choose_by S m c).machine ≡ m = refused_unchanged S m c.worker c.line n q in
        rw e (ap (λ k. mark_events S k i (journal_of (answers S (choose_by S m c).machine cs))) (sym unchanged) ∙ given_passes cs (choose_by S m c).machine i)
    | event e ok ↦ rw e (event_given m c i (journal_of (answers S (choose_by S m c).machine cs)) ok ∙ given_passes cs (choose_by S m c).machine (suc i))
  ]

  -- events after others
  marks_append : (xs : List EventRecord) (m : Machine X) (i : ℕ) (ys : List EventRecord) → mark_events S m i (xs ++ ys) ≡ mark_more S (mark_events S m i xs) (i + length xs) ys
  unfolding mark_more
  marks_append [] m i ys = let e : i + 0 ≡ i = omega arith in rw (mark_none m i, e)
  marks_append (r ∷ xs) m i ys = elim (takes m r) [
    | turned n e ↦ rw (event_turned m i r xs n e) (event_turned m i r (xs ++ ys) n e)
    | made ok r-is e ↦
        let same : i + suc (length xs) ≡ suc i + length xs = omega arith in
        rw (event_made m i r xs ok e, same) (event_made m i r (xs ++ ys) ok e ∙ marks_append xs (choose_by S m (named r)).machine (suc i) ys)
  ]

  -- what follows what is marked already: nothing, one more and the rest, and whatever follows a wrong event
  pub more_none : (w : Marked X) (i : ℕ) → mark_more S w i [] ≡ w
  unfolding mark_more
  more_none w i = by_test (goes_on w.verdict)
      (λ e. rw (e, mark_none w.machine i) (λ j. record { verdict = sym (goes_so_far w.verdict e) j; machine = w.machine }))
      (λ e. rw e)

  pub more_stuck : (w : Marked X) (i : ℕ) (rs : List EventRecord) → goes_on w.verdict ≡ false → mark_more S w i rs ≡ w
  unfolding mark_more
  more_stuck w i rs e = rw e

  pub more_step : (w : Marked X) (i : ℕ) (r : EventRecord) (rs : List EventRecord) → mark_more S (mark_more S w i (r ∷ [])) (i + 1) rs ≡ mark_more S w i (r ∷ rs)
  unfolding mark_more
  more_step w i r rs = by_test (goes_on w.verdict)
      (λ e. rw e (sym (marks_append (r ∷ []) w.machine i rs)))
      (λ e. rw e (rw e))

  -- what marking comes to: all events are given, or one is the first wrong one
  data Marks (m : Machine X) (rs : List EventRecord) : Type 0 where
    all_given : (cs : List Choice) → Gives S m cs rs → Marks m rs
    wrong_at_lem : (before : List EventRecord) (r : EventRecord) (rest : List EventRecord) → rs ≡ before ++ (r ∷ rest) → (cs : List Choice) → Gives S m cs before →
        (n : ℕ) → take_record S (follow S m cs) r 20 ≡ refuse (follow S m cs) n → Marks m rs

  -- one more event, given by the choice that it names
  module _ (m : Machine X) (r : EventRecord) (rs : List EventRecord)
      (ok : Accepted (choose_by S m (named r)).answer) (r-is : record_of (choose_by S m (named r)).answer ≡ r) where
    gives_more : (cs : List Choice) (ys : List EventRecord) → Gives S (choose_by S m (named r)).machine cs ys → Gives S m (named r ∷ cs) (r ∷ ys)
    unfolding keep answers
    gives_more cs ys g = rw (accepted_event (choose_by S m (named r)).answer ok) (λ j. r-is j ∷ g j)

    marks_more : Marks (choose_by S m (named r)).machine rs → Marks m (r ∷ rs)
    unfolding follow
    marks_more (all_given cs g) = all_given (named r ∷ cs) (gives_more cs rs g)
    marks_more (wrong_at_lem before s rest parts cs g n t) =
        wrong_at_lem (r ∷ before) s rest (ap (λ (l : List EventRecord). r ∷ l) parts) (named r ∷ cs) (gives_more cs before g) n t

  marks : (rs : List EventRecord) (m : Machine X) → Marks m rs
  unfolding answers follow keep
  marks [] m = all_given [] refl
  marks (r ∷ rs) m = elim (takes m r) [
    | turned n e ↦ wrong_at_lem [] r rs refl [] refl n e
    | made ok r-is e ↦ marks_more m r rs ok r-is (marks rs (choose_by S m (named r)).machine)
  ]

  module _ (m : Machine X) where
    -- choices that give the events leave what marking left
    as_given : (rs : List EventRecord) (cs : List Choice) → Gives S m cs rs → mark_events S m 0 rs ≡ passed (follow S m cs)
    as_given rs cs g = ap (mark_events S m 0) (sym g) ∙ given_passes cs m 0

    -- events behind given ones, of which the first is refused
    as_wrong : (before : List EventRecord) (r : EventRecord) (rest : List EventRecord) (cs : List Choice) → Gives S m cs before →
        (n : ℕ) → take_record S (follow S m cs) r 20 ≡ refuse (follow S m cs) n → mark_events S m 0 (before ++ (r ∷ rest)) ≡ wrong_at (follow S m cs) (length before) n
    unfolding mark_more
    as_wrong before r rest cs g n e =
        marks_append before m 0 (r ∷ rest)
        ∙ ap (λ (w : Marked X). mark_more S w (0 + length before) (r ∷ rest)) (as_given before cs g)
        ∙ event_turned (follow S m cs) (0 + length before) r rest n e
        ∙ ap (λ i. wrong_at (follow S m cs) i n) (let z : 0 + length before ≡ length before = omega arith in z)

    -- no journal is both
    not_both : (rs : List EventRecord) {k : Machine X} {i n : ℕ} → mark_events S m 0 rs ≡ wrong_at k i n → Given S m rs → ⊥
    not_both rs e (cs, g) = never (ap (λ (w : Marked X). goes_on w.verdict) (sym (as_given rs cs g) ∙ e))

    -- a first part of a given journal is given
    first_given : (xs zs : List EventRecord) → Given S m (xs ++ zs) → Given S m xs
    unfolding mark_more
    first_given xs zs all = elim (marks xs m) [
      | all_given cs g ↦ (cs, g)
      | wrong_at_lem before r rest parts cs g n e ↦
          let xs-wrong = ap (mark_events S m 0) parts ∙ as_wrong before r rest cs g n e in
          absurd (not_both (xs ++ zs) (marks_append xs m 0 zs ∙ ap (λ (w : Marked X). mark_more S w (0 + length xs) zs) xs-wrong) all)
    ]

    module _ (rs : List EventRecord) where
      abbrev w : Marked X
      w = mark_events S m 0 rs

      abbrev told : Marked X → Verdict
      told k = closing (ended k.machine) k.verdict

      -- where all events are given
      module _ (cs : List Choice) (g : Gives S m cs rs) where
        told_given : told w ≡ if (ended (follow S m cs)) Complete CorrectSoFar
        told_given = ap told (as_given rs cs g)

        marked_given : JournalMarked S m rs w
        marked_given = record {
          passes = (λ e. (cs, g), λ ks. ap (λ (k : Marked X). goes_on k.verdict) (as_given rs ks.0 ks.1));
          complete = (
            λ e. (cs, g, over_complete (ended (follow S m cs)) (sym told_given ∙ e)),
            λ ks. ap told (as_given rs ks.0 ks.1) ∙ rw ks.2,
          );
          so_far = (
            λ e. (cs, g, over_so_far (ended (follow S m cs)) (sym told_given ∙ e)),
            λ ks. ap told (as_given rs ks.0 ks.1) ∙ rw ks.2,
          );
          left = λ ks gk. sym (ap (λ (k : Marked X). k.machine) (as_given rs ks gk));
          wrong = λ i n e. absurd (over_wrong (ended (follow S m cs)) (sym told_given ∙ e));
          opened = λ n e. over_unopened (ended (follow S m cs)) (sym told_given ∙ e);
        }

      -- where one is wrong
      module _ (before : List EventRecord) (r : EventRecord) (rest : List EventRecord) (parts : rs ≡ before ++ (r ∷ rest)) (cs : List Choice) (g : Gives S m cs before)
          (n : ℕ) (e : take_record S (follow S m cs) r 20 ≡ refuse (follow S m cs) n) where
        w_is : w ≡ wrong_at (follow S m cs) (length before) n
        w_is = ap (mark_events S m 0) parts ∙ as_wrong before r rest cs g n e

        none_give : Given S m rs → ⊥
        none_give = not_both rs w_is

        first_wrong : FirstWrong S m rs (follow S m cs) (length before) n
        first_wrong = record {
          event = r;
          rest = rest;
          index = ap (drop (length before)) parts ∙ drop-append_seam before (r ∷ rest);
          earlier = λ j h.
              subst (λ l. Given S m (take j l)) (sym parts)
              (first_given (take j (before ++ (r ∷ rest))) (drop j before) (subst (Given S m) (take_within j before (r ∷ rest) h) (cs, g)));
          later = λ j h ks.
              let (zs, all) = take_beyond j before r rest h in
              not_both (before ++ (r ∷ zs)) (as_wrong before r zs cs g n e) (subst (Given S m) (ap (take j) parts ∙ all) ks);
          leaves = λ ks gk.
              let front : take (length before) rs ≡ before = ap (take (length before)) parts ∙ take-append_seam before (r ∷ rest) in
              ap (λ (k : Marked X). k.machine) (sym (as_given before ks (gk ∙ front)) ∙ as_given before cs g);
          refused = e;
        }

        marked_wrong : JournalMarked S m rs w
        marked_wrong = record {
          passes = (λ h. absurd (never (sym h ∙ ap (λ (k : Marked X). goes_on k.verdict) w_is)), λ ks. absurd (none_give ks));
          complete = (
            λ h. (let no : Complete ≡ Wrong (length before) n = sym h ∙ ap told w_is in let z : ◌≡◌ {A = ℕ} 0 1 = cc in absurd (omega arith)),
            λ ks. absurd (none_give (ks.0, ks.1)),
          );
          so_far = (
            λ h. (let no : CorrectSoFar ≡ Wrong (length before) n = sym h ∙ ap told w_is in let z : ◌≡◌ {A = ℕ} 0 1 = cc in absurd (omega arith)),
            λ ks. absurd (none_give (ks.0, ks.1)),
          );
          left = λ ks gk. absurd (none_give (ks, gk));
          wrong = λ i k h.
              let same : Wrong i k ≡ Wrong (length before) n = sym h ∙ ap told w_is in
              let i-is : length before ≡ i = cc in
              let n-is : n ≡ k = cc in
              let m-is : follow S m cs ≡ w.machine = sym (ap (λ (x : Marked X). x.machine) w_is) in
              subst (λ x. FirstWrong S m rs x i k) m-is (subst (λ x. FirstWrong S m rs (follow S m cs) i x) n-is (subst (λ x. FirstWrong S m rs (follow S m cs) x n) i-is first_wrong));
          opened = λ k h. (let no : NotOpened k ≡ Wrong (length before) n = sym h ∙ ap told w_is in let z : ◌≡◌ {A = ℕ} 0 1 = cc in omega arith);
        }

      pub journal_marked : JournalMarked S m rs w
      journal_marked = elim (marks rs m) [
        | all_given cs g ↦ marked_given cs g
        | wrong_at_lem before r rest parts cs g n e ↦ marked_wrong before r rest parts cs g n e
      ]
