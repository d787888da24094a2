-- Marking a written journal (02, 2.6), over any source of tokens.
use Rattle.std.specs.Prelude.{◌≡◌, ◌↔◌, Bool, true, false, List, [], ◌∷◌, map, ℕ, suc, ◌<◌, ◌≤◌, eqb, take, drop}
use Rattle.rules.specs.Lists.{if, must, all}
use Rattle.rules.specs.Sources.{Source}
use Rattle.rules.specs.RunState.{Machine}
use Rattle.rules.specs.Choices.{Answer, Started, Finished, Stopped, Refused, Choice, Chosen, refuse, ended, answers, follow}
use Rattle.rules.specs.Offers.{record_of, take_record}
use Rattle.rules.specs.PlainSheet.{Row}
use Rattle.rules.specs.MoreWorkers.{without_refusals}
use Rattle.vocabulary.specs.Events.{started_kind}
use Rattle.vocabulary.specs.declared.event.EventRecord.{EventRecord}

-- "say "complete", "correct so far", or the index (from 0) of the first event that the rules do not give, with its refusal"; or the
-- opening's number, which comes "before any event"
pub data Verdict : Type 0 where
  Complete : Verdict
  CorrectSoFar : Verdict
  Wrong : ℕ → ℕ → Verdict
  NotOpened : ℕ → Verdict

-- how far marking has come: the verdict on the events so far, and the run "as the accepted events left" it
pub record Marked (X : Type 0) : Type 0 where
  pub verdict : Verdict
  pub machine : Machine X

-- whether every event so far is one that the rules give
abbrev pub goes_on : Verdict → Bool
goes_on Complete = false
goes_on CorrectSoFar = true
goes_on (Wrong i n) = false
goes_on (NotOpened n) = false

-- "It is complete exactly if they end the run, else correct so far": the verdict when no event is left
abbrev pub closing : Bool → Verdict → Verdict
closing over v = must (goes_on v) v (if over Complete CorrectSoFar)

-- something of an answer's number if it is a refusal, and something else if it is an event
abbrev pub unless_refused : {A : Type 0} → Answer → (ℕ → A) → A → A
unless_refused (Started l p t k w) turned rest = rest
unless_refused (Finished l p t k w) turned rest = rest
unless_refused (Stopped l w) turned rest = rest
unless_refused (Refused n) turned rest = turned n

module _ {X : Type 0} (S : Source X) where
  -- events from a run on, the first with this index. Each is made if the choice of its worker and line gives it: "Refused: a choice's
  -- own numbers for the line named, then 20 if the rules' event differs in any field". The first that is refused is told, and nothing
  -- is made of it or of those after it.
  unfoldable pub mark_events : Machine X → ℕ → List EventRecord → Marked X
  mark_events m i [] = record { verdict = CorrectSoFar; machine = m }
  mark_events m i (r ∷ rs) =
      let c : Chosen X = take_record S m r 20 in
      unless_refused c.answer (λ n. record { verdict = Wrong i n; machine = m })
      (mark_events c.machine (suc i) rs)

  -- the same where some events are marked already: nothing follows a wrong one, or a refused opening
  unfoldable pub mark_more : Marked X → ℕ → List EventRecord → Marked X
  mark_more w i rs = must (goes_on w.verdict) w (mark_events w.machine i rs)

-- the events that a list of answers gives: the records of those that are no refusals, in order
abbrev pub journal_of : List Answer → List EventRecord
journal_of told = map record_of (without_refusals told)

-- the order of a journal is that of its starts at pipe 0, as rows of the sheet
unfoldable pub order_in : List EventRecord → List Row
order_in [] = []
order_in (r ∷ rs) =
    if (all (eqb r.kind started_kind ∷ eqb r.pipe 0 ∷ []))
    (record { token = r.token; place = r.place; line = r.line } ∷ order_in rs)
    (order_in rs)

module _ {X : Type 0} (S : Source X) (m : Machine X) where
  -- choices from here, refused ones among them or not, "give just those events"
  abbrev pub Gives : List Choice → List EventRecord → Type 0
  Gives cs rs = journal_of (answers S m cs) ≡ rs

  -- some choices do
  abbrev pub Given : List EventRecord → Type 0
  Given rs = (cs : List Choice) × Gives cs rs

  -- "the index (from 0) of the first event that the rules do not give, with its refusal"
  pub record FirstWrong (rs : List EventRecord) (left : Machine X) (i n : ℕ) : Type 0 where
    -- the event with this index, and those after it
    pub event : EventRecord
    pub rest : List EventRecord
    pub index : drop i rs ≡ event ∷ rest
    -- some choices give the events before it, or the first few of them; none give those up to and with it, or more
    pub earlier : (j : ℕ) → j ≤ i → Given (take j rs)
    pub later : (j : ℕ) → i < j → Given (take j rs) → ⊥
    -- whatever choices give those before it, they leave the run as marking left it, and there it is refused with this number
    pub leaves : (cs : List Choice) → Gives cs (take i rs) → follow S m cs ≡ left
    pub refused : take_record S left event 20 ≡ refuse left n

  -- what marking says of a journal whose run is at its opening here
  pub record JournalMarked (rs : List EventRecord) (w : Marked X) : Type 0 where
    -- "A journal passes exactly if some choices, from opening, give just those events."
    pub passes : (goes_on w.verdict ≡ true) ↔ Given rs
    -- "It is complete exactly if they end the run, else correct so far."
    pub complete : (closing (ended w.machine) w.verdict ≡ Complete) ↔ ((cs : List Choice) × Gives cs rs × (ended (follow S m cs) ≡ true))
    pub so_far : (closing (ended w.machine) w.verdict ≡ CorrectSoFar) ↔ ((cs : List Choice) × Gives cs rs × (ended (follow S m cs) ≡ false))
    -- whatever choices give them, they leave the run as marking left it
    pub left : (cs : List Choice) → Gives cs rs → follow S m cs ≡ w.machine
    -- else it is wrong at the first event that the rules do not give
    pub wrong : (i n : ℕ) → closing (ended w.machine) w.verdict ≡ Wrong i n → FirstWrong rs w.machine i n
    -- and no other verdict is told
    pub opened : (n : ℕ) → closing (ended w.machine) w.verdict ≡ NotOpened n → ⊥
