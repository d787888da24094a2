-- An offer, and the taking of what was offered, in a run with rounding: together the choice.
use mathlib.Core.Path.{◌≡◌, refl, sym, ap, ◌∙◌}
use mathlib.Core.Bool.{Bool, true, false}
use mathlib.Core.List.{List}
use Prim.Native.Nat.{ℕ}
use Rattle.vocabulary.specs.declared.event.Event.{Event}
use Rattle.vocabulary.specs.declared.event.EventRecord.{EventRecord}
use Rattle.vocabulary.specs.Events.{event_record, same_record}
use Rattle.rules.specs.Sources.{Source}
use Rattle.rules.specs.RunState.{Machine}
use Rattle.rules.specs.Choices.{Choice, Refused, Chosen, refuse}
use Rattle.rules.specs.WholeRuns.{Accepted}
use Rattle.rules.specs.Offers.{is_refused, record_of, event_of, named, only_if}
use Rattle.rules.specs.Rounding.{rounding_sound, Run, Lending, RoundedChosen, refuse_with, accept, rounded_with, choose_rounded}
use Rattle.rules.specs.RoundedOffers.{named_with, join_with, take_record_rounded, named_by, taking, TakenRounded}
use Rattle.rules.specs.RoundedOffers.{bare_choice, lent_fit, sum_within, as_handed, checked_choice, TakenAs, RefusedAs, TakenByChecks}
use Rattle.rules.proofs.lists.Tests.{by_test, if_holds, never, holds, fails, see}
use Rattle.rules.proofs.choices.Offered.{same_itself, record_is, event_accepted, is_accepted_lem, names_choice, only_refused, only_other, only_same, same_event}
use Rattle.rules.proofs.rounding.Choice.{plain, InRange, refusal, rounded_unchanged}
use Rattle.rules.proofs.rounding.Accepting.{accepted_is}

module _ {X : Type 0} (S : Source X) (r : Run X) where
  -- an accepted choice's event names the worker and the line that were chosen
  names_rounded : (a : Lending) (e : Event) → (choose_rounded S r a).answer ≡ event_of e → named (event_record e) ≡ a.choice
  names_rounded a e told =
      let ok : Accepted (choose_rounded S r a).answer = is_accepted_lem _ (ap is_refused told ∙ event_accepted e) in
      let bare : (plain S r a).answer ≡ event_of e = sym (ap (λ (c : RoundedChosen X). c.answer) (accepted_is S r a ok)) ∙ told in
      ap named (sym (ap record_of bare ∙ record_is e)) ∙
      names_choice S r.machine a.choice.worker a.choice.line (is_accepted_lem _ (ap is_refused bare ∙ event_accepted e))

  -- a record's taking: the choice's own refusal, another event, the same
  module _ (e : EventRecord) (cells figures : List ℕ) (n : ℕ) where
    abbrev chosen : RoundedChosen X
    chosen = choose_rounded S r (named_with e cells figures)

    abbrev agreed : Bool
    agreed = same_record (record_of chosen.answer) e

    abbrev taken : RoundedChosen X
    taken = take_record_rounded S r e cells figures n

    record_own : is_refused chosen.answer ≡ true → taken ≡ chosen
    unfolding take_record_rounded
    record_own d = sym (if_holds (is_refused chosen.answer) chosen _ chosen d refl)

    record_other : is_refused chosen.answer ≡ false → agreed ≡ false → taken ≡ refuse_with r (named_with e cells figures) (Refused n)
    unfolding take_record_rounded
    record_other d s = rw (d, s)

    record_same : agreed ≡ true → taken ≡ chosen
    unfolding take_record_rounded
    record_same s = by_test (is_refused chosen.answer) (λ h. rw h) (λ h. rw (h, s))

  module _ (e : Event) (cells figures : List ℕ) where
    abbrev a : Lending
    a = named_by S r e cells figures

    -- what an offer showed, taken
    as_chosen : (c : Choice) → (choose_rounded S r (record { choice = c; cells = cells; figures = figures })).answer ≡ event_of e →
        taking S r e cells figures ≡ choose_rounded S r (record { choice = c; cells = cells; figures = figures })
    as_chosen c told =
        let names = names_rounded (record { choice = c; cells = cells; figures = figures }) e told in
        let here : (c : Choice) → Lending = λ c. record { choice = c; cells = cells; figures = figures } in
        let own : record_of (choose_rounded S r a).answer ≡ event_record e =
        ap (λ (c : Choice). record_of (choose_rounded S r (here c)).answer) names ∙ ap record_of told ∙ record_is e in
        record_same (event_record e) cells figures 19 (ap (λ b. same_record b (event_record e)) own ∙ same_itself (event_record e)) ∙
        ap (λ (c : Choice). choose_rounded S r (here c)) names

    own_first : (n : ℕ) → (choose_rounded S r a).answer ≡ Refused n → taking S r e cells figures ≡ refuse_with r a (Refused n)
    own_first n told =
        let same = rounded_unchanged S r a n told in
        record_own (event_record e) cells figures 19 (ap is_refused told) ∙
        (λ i. record { answer = told i; run = same.0 i; figures = same.1 i })

    then_19 : is_refused (choose_rounded S r a).answer ≡ false → ((choose_rounded S r a).answer ≡ event_of e → ⊥) → taking S r e cells figures ≡ refuse_with r a (Refused 19)
    then_19 ok other =
        record_other (event_record e) cells figures 19 ok (by_test (agreed (event_record e) cells figures 19)
        (λ same. absurd (other (same_event _ e ok same))) (λ differs. differs))

    -- a taking that is accepted
    module _ (accepts : is_refused (taking S r e cells figures).answer ≡ false) where
      own_accepted : is_refused (choose_rounded S r a).answer ≡ false
      own_accepted = by_test (is_refused (choose_rounded S r a).answer)
          (λ d. absurd (never (sym d ∙ ap (λ (c : RoundedChosen X). is_refused c.answer) (sym (record_own (event_record e) cells figures 19 d)) ∙ accepts)))
          (λ ok. ok)

      still : (choose_rounded S r a).answer ≡ event_of e
      still = elim (see (agreed (event_record e) cells figures 19)) [
        | holds s ↦ same_event _ e own_accepted s
        | fails s ↦
            absurd (never (ap (λ (c : RoundedChosen X). is_refused c.answer) (sym (record_other (event_record e) cells figures 19 own_accepted s)) ∙ accepts))
      ]

    unchanged : is_refused (taking S r e cells figures).answer ≡ true →
        ((taking S r e cells figures).run ≡ r) × ((taking S r e cells figures).figures ≡ figures)
    unchanged refused = elim (see (is_refused (choose_rounded S r a).answer)) [
      | holds d ↦ let (n, told) = refusal _ d in rw (own_first n told) (refl, refl)
      | fails ok ↦ elim (see (agreed (event_record e) cells figures 19)) [
        | holds s ↦
            absurd (never (sym refused ∙ ap (λ (c : RoundedChosen X). is_refused c.answer) (record_same (event_record e) cells figures 19 s) ∙ ok))
        | fails s ↦ rw (record_other (event_record e) cells figures 19 ok s) (refl, refl)
      ]
    ]

    -- every event, in any run
    pub taken_rounded : TakenRounded S r e cells figures
    taken_rounded = record {
      as_chosen = as_chosen;
      own_first = own_first;
      then_19 = then_19;
      just_the_event = λ ok. ap (λ (c : RoundedChosen X). c.answer) (as_chosen a.choice (still ok)) ∙ still ok;
      is_the_choice = λ ok. as_chosen a.choice (still ok);
      unchanged = unchanged;
    }

-- an outcome without rounding joined with T and the figures: a refusal, and what is accepted
module _ {X : Type 0} (r : Run X) (a : Lending) (c : Chosen X) where
  pub join_refused : is_refused c.answer ≡ true → join_with r a c ≡ refuse_with r a c.answer
  unfolding join_with
  join_refused d = rw d

  pub join_accepted : is_refused c.answer ≡ false → join_with r a c ≡ accept r a c
  unfolding join_with
  join_accepted d = rw d

-- a record's taking by the order of its checks
module _ {X : Type 0} (S : Source X) (r : Run X) (e : EventRecord) (cells figures : List ℕ) (n : ℕ) where
  abbrev lent : Lending
  lent = named_with e cells figures

  -- where pipe, base and T are not within their ranges, 14 comes first
  pub taken_spoiled : (InRange S r lent → ⊥) → take_record_rounded S r e cells figures n ≡ refuse_with r lent (Refused 14)
  unfolding take_record_rounded choose_rounded
  taken_spoiled out = by_test (rounding_sound r.machine.pipes r.machine.serial r.rounding) (λ s. absurd (out s)) (λ s. rw s)

  abbrev m : Machine X
  m = r.machine

  abbrev bare : Chosen X
  bare = bare_choice S r e

  abbrev fits : Bool
  fits = lent_fit S r e cells figures

  abbrev within : Bool
  within = sum_within S r e cells figures

  abbrev same : Bool
  same = as_handed S r e cells figures

  abbrev checked : Chosen X
  checked = checked_choice S r e cells figures n

  -- a choice that one of these refuses is refused by the whole
  refused_by_lem : (k : ℕ) → only_if m within 14 (only_if m fits 18 bare) ≡ refuse m k → checked ≡ refuse m k
  refused_by_lem k q = ap (only_if m same n) q ∙ only_refused m same n (refuse m k) refl

  module _ (s : InRange S r lent) where
    own_check : is_refused bare.answer ≡ true → TakenAs S r e cells figures n (refuse_with r lent bare.answer) bare
    unfolding take_record_rounded choose_rounded rounded_with only_if
    own_check d = (rw (s, d, d), rw (d, d, d))

    unfit_check : is_refused bare.answer ≡ false → fits ≡ false → RefusedAs S r e cells figures n 18
    unfolding take_record_rounded choose_rounded rounded_with
    unfit_check d f = (
      rw (s, d, f),
      refused_by_lem 18 (ap (only_if m within 14) (only_other m fits 18 bare d f) ∙ only_refused m within 14 (refuse m 18) refl),
    )

    sum_check : is_refused bare.answer ≡ false → fits ≡ true → within ≡ false → RefusedAs S r e cells figures n 14
    unfolding take_record_rounded choose_rounded rounded_with
    sum_check d f t = (
      rw (s, d, f, t),
      refused_by_lem 14 (ap (only_if m within 14) (only_same m fits 18 bare f) ∙ only_other m within 14 bare d t),
    )

    -- where 18 and 14 are not for it
    all_fit : fits ≡ true → within ≡ true → checked ≡ only_if m same n bare
    all_fit f t = ap (only_if m same n) (ap (only_if m within 14) (only_same m fits 18 bare f) ∙ only_same m within 14 bare t)

    other_check : is_refused bare.answer ≡ false → fits ≡ true → within ≡ true → same ≡ false → RefusedAs S r e cells figures n n
    unfolding take_record_rounded choose_rounded rounded_with
    other_check d f t q = (rw (s, d, f, t, d, q), all_fit f t ∙ only_other m same n bare d q)

    taken_check : is_refused bare.answer ≡ false → fits ≡ true → within ≡ true → same ≡ true → TakenAs S r e cells figures n (accept r lent bare) bare
    unfolding take_record_rounded choose_rounded rounded_with
    taken_check d f t q = (rw (s, d, f, t, d, q), all_fit f t ∙ only_same m same n bare q)

    joined_both : {c : RoundedChosen X} {d : Chosen X} → TakenAs S r e cells figures n c d → join_with r lent d ≡ c →
        take_record_rounded S r e cells figures n ≡ join_with r lent checked
    joined_both b j = b.0 ∙ sym (ap (join_with r lent) b.1 ∙ j)

    joined : take_record_rounded S r e cells figures n ≡ join_with r lent checked
    joined = elim (see (is_refused bare.answer)) [
      | holds d ↦ joined_both (own_check d) (join_refused r lent bare d)
      | fails d ↦ elim (see fits) [
        | fails f ↦ joined_both (unfit_check d f) (join_refused r lent (refuse m 18) refl)
        | holds f ↦ elim (see within) [
          | fails t ↦ joined_both (sum_check d f t) (join_refused r lent (refuse m 14) refl)
          | holds t ↦ elim (see same) [
            | fails q ↦ joined_both (other_check d f t q) (join_refused r lent (refuse m n) refl)
            | holds q ↦ joined_both (taken_check d f t q) (join_accepted r lent bare d)
          ]
        ]
      ]
    ]

    pub taken_by_checks : TakenByChecks S r e cells figures n
    taken_by_checks = record { own = own_check; unfit = unfit_check; too_much = sum_check; other = other_check; taken = taken_check; joined = joined }
