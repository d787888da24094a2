-- Offer, then take, in a run with rounding (02, 2.3 and 2.2), over any source of tokens.
use Rattle.std.specs.Prelude.{◌≡◌, Bool, true, false, List, ℕ, leb}
use Rattle.rules.specs.Lists.{must, must_not}
use Rattle.rules.specs.Sources.{Source}
use Rattle.rules.specs.Choices.{Choice, Answer, Refused, Chosen, refuse, choose_by}
use Rattle.rules.specs.Offers.{is_refused, record_of, event_of, named, only_if}
use Rattle.rules.specs.Rounding.{sum_most, lent_fits, lent_count, passing, sum_after, Run, Lending, RoundedChosen, refuse_with, accept, choose_rounded}
use Rattle.vocabulary.specs.Events.{event_record, same_record}
use Rattle.vocabulary.specs.declared.event.Event.{Event}
use Rattle.vocabulary.specs.declared.event.EventRecord.{EventRecord}

-- "Cells and figures are lent to every choice as well": the choice that a record names, with these
abbrev pub named_with : EventRecord → List ℕ → List ℕ → Lending
named_with e cells figures = record { choice = named e; cells = cells; figures = figures }

-- what an outcome without rounding comes to in a run with it: a refusal changes nothing; an event changes T and a figure besides,
-- where a cell passes by it
unfoldable pub join_with : {X : Type 0} → Run X → Lending → Chosen X → RoundedChosen X
join_with r a c =
    must_not (is_refused c.answer) (refuse_with r a c.answer)
    (accept r a c)

module _ {X : Type 0} (S : Source X) where
  -- "the offer returns the event or refusal and changes nothing"
  abbrev pub offer_rounded : Run X → Lending → Answer
  offer_rounded r a = (choose_rounded S r a).answer

  -- the choice that a record names, made only if its event is the record's: refused with the numbers of a choice, then with this one
  -- "when the handed event differs"
  unfoldable pub take_record_rounded : Run X → EventRecord → List ℕ → List ℕ → ℕ → RoundedChosen X
  take_record_rounded r e cells figures n =
      let a : Lending = named_with e cells figures in
      let c : RoundedChosen X = choose_rounded S r a in
      must_not (is_refused c.answer) c
      (must (same_record (record_of c.answer) e) (refuse_with r a (Refused n))
      c)

  -- "Refused: 19, after all of a choice's own checks and those of 2.2, when the handed event differs."
  abbrev pub take_rounded : Run X → Event → List ℕ → List ℕ → RoundedChosen X
  take_rounded r e cells figures = take_record_rounded r (event_record e) cells figures 19

  -- the taking of an event in any run, of a run or not, with these cells and figures
  module _ (r : Run X) (e : Event) (cells figures : List ℕ) where
    -- the choice that the event names, and its taking
    abbrev pub named_by : Lending
    named_by = named_with (event_record e) cells figures

    abbrev pub taking : RoundedChosen X
    taking = take_rounded r e cells figures

    pub record TakenRounded : Type 0 where
      -- "An offer followed by its taking equals the old single choice": what it returns, the run and the figures
      pub as_chosen : (c : Choice) → offer_rounded r (record { choice = c; cells = cells; figures = figures }) ≡ event_of e →
          taking ≡ choose_rounded S r (record { choice = c; cells = cells; figures = figures })
      -- "after all of a choice's own checks and those of 2.2": their refusal comes first,
      pub own_first : (n : ℕ) → offer_rounded r named_by ≡ Refused n → taking ≡ refuse_with r named_by (Refused n)
      -- then 19, "when the handed event differs"
      pub then_19 : is_refused (offer_rounded r named_by) ≡ false → (offer_rounded r named_by ≡ event_of e → ⊥) → taking ≡ refuse_with r named_by (Refused 19)
      -- "acts only if that is still what the line would do": a taking that is accepted gives just the event, and is the choice
      pub just_the_event : is_refused taking.answer ≡ false → taking.answer ≡ event_of e
      pub is_the_choice : is_refused taking.answer ≡ false → taking ≡ choose_rounded S r named_by
      -- "and nothing is changed" by one that is refused
      pub unchanged : is_refused taking.answer ≡ true → (taking.run ≡ r) × (taking.figures ≡ figures)

  -- the choice that a record names, without rounding
  abbrev pub bare_choice : Run X → EventRecord → Chosen X
  bare_choice r e = choose_by S r.machine (named e)

  -- the taking of a record by the order of its checks
  module _ (r : Run X) (e : EventRecord) (cells figures : List ℕ) where
    -- what 18, 14 and the last number are for: the tests of 2.2, and of 2.3
    abbrev pub lent_fit : Bool
    lent_fit = lent_fits (lent_count r.machine.tokens r.rounding) cells figures

    abbrev pub sum_within : Bool
    sum_within = leb (sum_after r.rounding cells (passing r.rounding (bare_choice r e).answer)) sum_most

    abbrev pub as_handed : Bool
    as_handed = same_record (record_of (bare_choice r e).answer) e

    module _ (n : ℕ) where
      -- the choice without rounding, made only if all of them hold
      abbrev pub checked_choice : Chosen X
      checked_choice = only_if r.machine as_handed n (only_if r.machine sum_within 14 (only_if r.machine lent_fit 18 (bare_choice r e)))

      -- what the taking is, and what that choice is
      abbrev pub TakenAs : RoundedChosen X → Chosen X → Type 0
      TakenAs c d = (take_record_rounded r e cells figures n ≡ c) × (checked_choice ≡ d)

      abbrev pub RefusedAs : ℕ → Type 0
      RefusedAs k = TakenAs (refuse_with r (named_with e cells figures) (Refused k)) (refuse r.machine k)

      -- where pipe, base and T are within their ranges:
      pub record TakenByChecks : Type 0 where
        -- the choice's own refusal;
        pub own : is_refused (bare_choice r e).answer ≡ true → TakenAs (refuse_with r (named_with e cells figures) (bare_choice r e).answer) (bare_choice r e)
        -- "in a choice 18 comes after all its own checks,
        pub unfit : is_refused (bare_choice r e).answer ≡ false → lent_fit ≡ false → RefusedAs 18
        -- then 14 if T would pass 4,096,000,000";
        pub too_much : is_refused (bare_choice r e).answer ≡ false → lent_fit ≡ true → sum_within ≡ false → RefusedAs 14
        -- then the number for another event;
        pub other : is_refused (bare_choice r e).answer ≡ false → lent_fit ≡ true → sum_within ≡ true → as_handed ≡ false → RefusedAs n
        -- and what is accepted
        pub taken : is_refused (bare_choice r e).answer ≡ false → lent_fit ≡ true → sum_within ≡ true → as_handed ≡ true →
            TakenAs (accept r (named_with e cells figures) (bare_choice r e)) (bare_choice r e)
        -- so in every case the taking is that choice, joined with T and the figures
        pub joined : take_record_rounded r e cells figures n ≡ join_with r (named_with e cells figures) checked_choice
