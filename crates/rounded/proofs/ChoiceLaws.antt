-- A choice with rounding is the choice without, made only if rounding gives leave, and what its answer does to T and the figures.
use mathlib.Core.Path.{◌≡◌, refl, sym, ap, subst, ◌∙◌}
use mathlib.Core.Bool.{Bool, true, false}
use mathlib.Core.List.{List}
use Prim.Native.Nat.{ℕ, ◌<◌}
use lib.Dec.{leb}
use borrow.Author.Tests.{leb-false, lt-leb}
use Rattle.std.specs.Prelude.{Result, Ok, Err, is_ok}
use Rattle.engine.specs.Taking.{other_of}
use Rattle.vocabulary.specs.declared.event.EventRecord.{EventRecord}
use Rattle.vocabulary.specs.declared.refusal.Refusal.{Refusal}
use Rattle.vocabulary.specs.Refusals.{number_of}
use Rattle.rules.specs.Lists.{within}
use Rattle.rules.specs.Sources.{Source}
use Rattle.rules.specs.RunState.{Machine}
use Rattle.rules.specs.Ranges.{numbers_sound, sound}
use Rattle.rules.specs.Choices.{Refused, Chosen, refuse, choose, choose_by}
use Rattle.rules.specs.Offers.{is_refused, only_if}
use Rattle.rules.specs.Rounding.{Rounding, sum_most, rounding_sound, lent_fits, lent_count, NonePasses, passing, sum_after, Run, Lending, RoundedChosen, refuse_with, rounded_with, choose_rounded}
use Rattle.rules.specs.RoundedOffers.{named_with, join_with, take_record_rounded, as_handed, checked_choice}
use Rattle.rules.proofs.lists.Tests.{by_test, holds, fails, see, never, if_same}
use Rattle.rules.proofs.choices.Outcomes.{refused_unchanged}
use Rattle.rules.proofs.choices.Offered.{only_as, only_refused, only_other, only_same}
use Rattle.rules.proofs.rounding.Choice.{refusal}
use Rattle.rules.proofs.rounding.Passers.{passing_refused}
use Rattle.rules.proofs.rounding.Offered.{taken_by_checks, join_refused, join_accepted}
use Rattle.rounding.specs.Roundings.{rounding_fits}
use Rattle.rounding.specs.Settlings.{is_known, settle_by}
use Rattle.rounding.proofs.laws.Ranges.{sound_known}
use Rattle.rounded.specs.Leaves.{passer_at, leave_of, told_by}
use Rattle.rounded.specs.Runs.{joined}
use Rattle.rounded.proofs.LeaveLaws.{choice_passes, with_leave, leave_once}

-- more than 16 pipes
too_many : (n : ℕ) → 16 < n → within 1 16 n ≡ false
unfolding within
too_many n h = rw (lt-leb n 16 h, if_same)

choice_spoiled : {X : Type 0} (S : Source X) (m : Machine X) → 16 < m.pipes → (w l : ℕ) → choose S m w l ≡ refuse m 14
unfolding choose sound numbers_sound
choice_spoiled S m many w l = rw (too_many m.pipes many)

-- a rounding that fits a plan of at most 16 pipes is within its ranges
pub ranged : (pipes : ℕ) (serial : List Bool) (r : Rounding) → rounding_fits pipes serial r ≡ true → rounding_sound pipes serial r ≡ true
unfolding rounding_fits
ranged pipes serial r h = elim (see (rounding_sound pipes serial r)) [
  | holds e ↦ e
  | fails e ↦ by_test (leb pipes 16) (λ t. absurd (never (sym (rw (t, e) at h)))) (λ t. absurd (never (sym (rw t at h))))
]

module _ {X : Type 0} (S : Source X) (r : Run X) (a : Lending) where
  -- else every choice gets 14
  rounding_spoiled : rounding_sound r.machine.pipes r.machine.serial r.rounding ≡ false → choose_rounded S r a ≡ refuse_with r a (Refused 14)
  unfolding choose_rounded
  rounding_spoiled e = rw e

  pipes_spoiled : 16 < r.machine.pipes → choose_rounded S r a ≡ refuse_with r a (Refused 14)
  unfolding choose_rounded rounded_with
  pipes_spoiled many = by_test (rounding_sound r.machine.pipes r.machine.serial r.rounding)
      (λ e. rw (e, choice_spoiled S r.machine many a.choice.worker a.choice.line))
      (λ e. rw e)

  pub unranged : rounding_fits r.machine.pipes r.machine.serial r.rounding ≡ false → choose_rounded S r a ≡ refuse_with r a (Refused 14)
  unfolding rounding_fits
  unranged h = elim (see (leb r.machine.pipes 16)) [
    | fails t ↦ pipes_spoiled (leb-false r.machine.pipes 16 t)
    | holds t ↦ elim (see (rounding_sound r.machine.pipes r.machine.serial r.rounding)) [
      | fails e ↦ rounding_spoiled e
      | holds e ↦ absurd (never (rw (t, e) at h))
    ]
  ]

  -- the checks of 2.2, in their order
  abbrev pub plain : Chosen X
  plain = choose_by S r.machine a.choice

  abbrev pub fitting : Bool
  fitting = lent_fits (lent_count r.machine.tokens r.rounding) a.cells a.figures

  abbrev staying : Bool
  staying = leb (sum_after r.rounding a.cells (passing r.rounding plain.answer)) sum_most

  abbrev pub checked : Chosen X
  checked = only_if r.machine staying 14 (only_if r.machine fitting 18 plain)

  own_whole : rounding_sound r.machine.pipes r.machine.serial r.rounding ≡ true → is_refused plain.answer ≡ true →
      choose_rounded S r a ≡ join_with r a checked
  unfolding choose_rounded rounded_with
  own_whole s d =
      let inner : only_if r.machine fitting 18 plain ≡ plain = only_refused r.machine fitting 18 plain d in
      let outer : checked ≡ plain = ap (λ c. only_if r.machine staying 14 c) inner ∙ only_refused r.machine staying 14 plain d in
      rw (s, d) (sym (join_refused r a plain d)) ∙ ap (join_with r a) (sym outer)

  pub chosen_by_checks : rounding_sound r.machine.pipes r.machine.serial r.rounding ≡ true → choose_rounded S r a ≡ join_with r a checked
  unfolding choose_rounded rounded_with join_with only_if
  chosen_by_checks s = elim (see (is_refused plain.answer)) [
    | holds d ↦ own_whole s d
    | fails d ↦ elim (see fitting) [
      | fails f ↦ rw (s, d, f)
      | holds f ↦ by_test staying (λ t. rw (s, d, f, d, t, d)) (λ t. rw (s, d, f, d, t))
    ]
  ]

-- a choice that is refused has left its machine as it was, also where it is made only if something holds
module _ {X : Type 0} (m : Machine X) where
  abbrev Keeps : Chosen X → Type 0
  Keeps c = is_refused c.answer ≡ true → c.machine ≡ m

  only_keeps : (b : Bool) (n : ℕ) (c : Chosen X) → Keeps c → Keeps (only_if m b n c)
  only_keeps b n c k = elim (see (is_refused c.answer)) [
    | holds d ↦ subst Keeps (sym (only_refused m b n c d)) k
    | fails d ↦ elim (see b) [
      | holds e ↦ subst Keeps (sym (only_same m b n c e)) k
      | fails e ↦ subst Keeps (sym (only_other m b n c d e)) (λ h. refl)
    ]
  ]

  -- one that is accepted was made, and what was asked for holds
  only_made : (b : Bool) (n : ℕ) (c : Chosen X) → is_refused (only_if m b n c).answer ≡ false → (only_if m b n c ≡ c) × (b ≡ true)
  only_made b n c h = elim (see (is_refused c.answer)) [
    | holds d ↦ absurd (never (sym d ∙ ap (λ (x : Chosen X). is_refused x.answer) (sym (only_refused m b n c d)) ∙ h))
    | fails d ↦ elim (see b) [
      | holds e ↦ (only_same m b n c e, e)
      | fails e ↦ absurd (never (ap (λ (x : Chosen X). is_refused x.answer) (sym (only_other m b n c d e)) ∙ h))
    ]
  ]

-- what an answer does to T and the figures, beside its choice
module _ {X : Type 0} (r : Run X) (a : Lending) (k : Chosen X) where
  abbrev settling : RoundedChosen X
  settling = joined k r.rounding (settle_by r.rounding k.answer a.cells a.figures)

  settled_refused : (n : ℕ) → k.answer ≡ Refused n → settling ≡
      record { answer = k.answer; run = record { machine = k.machine; rounding = r.rounding }; figures = a.figures }
  unfolding settle_by
  settled_refused n e =
      let nobody : passing r.rounding k.answer ≡ NonePasses = ap (passing r.rounding) e ∙ passing_refused r.rounding n in
      by_test (is_known r.rounding.base)
      (λ b. by_test (leb r.rounding.sum sum_most) (λ t. rw (b, nobody, t)) (λ t. rw (b, nobody, t)))
      (λ b. rw b)

  pub settled_join : Keeps r.machine k → is_known r.rounding.base ≡ true →
      (is_refused k.answer ≡ false → leb (sum_after r.rounding a.cells (passing r.rounding k.answer)) sum_most ≡ true) → settling ≡ join_with r a k
  unfolding settle_by
  settled_join kept known stays = elim (see (is_refused k.answer)) [
    | holds d ↦
        let q = refusal k.answer d in
        settled_refused q.0 q.1 ∙
        ap (λ x. record { answer = k.answer; run = record { machine = x; rounding = r.rounding }; figures = a.figures }) (kept d) ∙ sym (join_refused r a k d)
    | fails d ↦ rw (known, stays d) (sym (join_accepted r a k d))
  ]

-- the whole choice
module _ {X : Type 0} (S : Source X) (r : Run X) (a : Lending) (s : rounding_sound r.machine.pipes r.machine.serial r.rounding ≡ true) where
  plain_keeps : Keeps r.machine (plain S r a)
  plain_keeps d = let q = refusal (plain S r a).answer d in refused_unchanged S r.machine a.choice.worker a.choice.line q.0 q.1

  inner_keeps : Keeps r.machine (only_if r.machine (fitting S r a) 18 (plain S r a))
  inner_keeps = only_keeps r.machine (fitting S r a) 18 (plain S r a) plain_keeps

  checked_keeps : Keeps r.machine (checked S r a)
  checked_keeps = only_keeps r.machine (staying S r a) 14 (only_if r.machine (fitting S r a) 18 (plain S r a)) inner_keeps

  checked_stays : is_refused (checked S r a).answer ≡ false → (checked S r a ≡ plain S r a) × (staying S r a ≡ true)
  checked_stays ok =
      let (outer, stays) = only_made r.machine (staying S r a) 14 (only_if r.machine (fitting S r a) 18 (plain S r a)) ok in
      let (inner, fits) = only_made r.machine (fitting S r a) 18 (plain S r a) (ap (λ (x : Chosen X). is_refused x.answer) (sym outer) ∙ ok) in
      (outer ∙ inner, stays)

  pub whole_choice : {k : Chosen X} → k ≡ checked S r a → settling r a k ≡ choose_rounded S r a
  whole_choice k-is =
      ap (settling r a) k-is ∙
      settled_join r a (checked S r a) checked_keeps (sound_known _ _ _ s)
      (λ ok. let (made, stays) = checked_stays ok in rw made stays) ∙
      sym (chosen_by_checks S r a s)

-- a taking of a record
module _ {X : Type 0} (S : Source X) (r : Run X) (e : EventRecord) (cells figures : List ℕ) (n : ℕ) where
  abbrev lending : Lending
  lending = named_with e cells figures

  pub taken_refused : {k : ℕ} → choose_rounded S r lending ≡ refuse_with r lending (Refused k) → take_record_rounded S r e cells figures n ≡ refuse_with r lending (Refused k)
  unfolding take_record_rounded
  taken_refused q = rw q

  module _ (s : rounding_sound r.machine.pipes r.machine.serial r.rounding ≡ true) where
    abbrev taking : Chosen X
    taking = checked_choice S r e cells figures n

    pub whole_taking : {k : Chosen X} → k ≡ taking → settling r lending k ≡ take_record_rounded S r e cells figures n
    whole_taking k-is =
        ap (settling r lending) k-is ∙
        settled_join r lending taking
        (only_keeps r.machine (as_handed S r e cells figures) n (checked S r lending) (checked_keeps S r lending s)) (sound_known _ _ _ s)
        (λ ok.
        let (outer, agreed) = only_made r.machine (as_handed S r e cells figures) n (checked S r lending) ok in
        let (made, stays) = checked_stays S r lending s (ap (λ (x : Chosen X). is_refused x.answer) (sym outer) ∙ ok) in
        rw (outer ∙ made) stays) ∙
        sym (taken_by_checks S r e cells figures n s).joined

-- the checks of 2.2, told before the choice
module _ {X : Type 0} (S : Source X) (r : Run X) (a : Lending) where
  abbrev pub shown_stays : Bool
  shown_stays = leb (sum_after r.rounding a.cells (passer_at r.rounding r.machine.slots a.choice.line)) sum_most

  abbrev fitted : Chosen X
  fitted = only_if r.machine (fitting S r a) 18 (plain S r a)

  -- what the line shows is what its choice answers, where that is accepted
  shown_stays_lem : is_refused fitted.answer ≡ false → shown_stays ≡ staying S r a
  shown_stays_lem ok =
      let (made, fits) = only_made r.machine (fitting S r a) 18 (plain S r a) ok in
      let own : is_refused (plain S r a).answer ≡ false = ap (λ (x : Chosen X). is_refused x.answer) (sym made) ∙ ok in
      ap (λ p. leb (sum_after r.rounding a.cells p) sum_most) (sym (choice_passes S r.rounding r.machine a.choice.worker a.choice.line own))

  module _ {leave : Result (Unit {0}) Refusal} (leave-is : leave ≡ leave_of (fitting S r a) shown_stays) where
    abbrev asked : Chosen X
    asked = with_leave r.machine leave (plain S r a)

    pub leave_checks : asked ≡ checked S r a
    leave_checks =
        ap (λ v. with_leave r.machine v (plain S r a)) leave-is ∙
        leave_once r.machine (fitting S r a) shown_stays (plain S r a) ∙
        only_as r.machine shown_stays (staying S r a) 14 fitted shown_stays_lem

    -- with leave a taking goes by the choice alone; without, it has the number that rounding gave
    module _ (same : Bool) (n : ℕ) where
      pub leave_given : {u : Unit {0}} → leave ≡ Ok u → only_if r.machine same n (plain S r a) ≡ only_if r.machine same n (checked S r a)
      leave_given e =
          ap (only_if r.machine same n)
          (sym (only_same r.machine (is_ok leave) (other_of leave) (plain S r a) (ap is_ok e)) ∙ leave_checks)

      pub leave_refused : {why : Refusal} → leave ≡ Err why → only_if r.machine false (number_of why) (plain S r a) ≡ only_if r.machine same n (checked S r a)
      unfolding only_if
      leave_refused {why} e =
          let refused : is_refused asked.answer ≡ true = rw e (by_test (is_refused (plain S r a).answer) (λ d. rw d d) (λ d. rw d)) in
          ap (λ v. with_leave r.machine v (plain S r a)) (sym e) ∙ sym (only_refused r.machine same n asked refused) ∙ ap (only_if r.machine same n) leave_checks

-- an offer
module _ {X : Type 0} (S : Source X) (r : Run X) (a : Lending) where
  told_asked : (v : Result (Unit {0}) Refusal) → told_by v (plain S r a).answer ≡ (with_leave r.machine v (plain S r a)).answer
  unfolding only_if
  told_asked (Ok u) = by_test (is_refused (plain S r a).answer) (λ d. rw d) (λ d. rw d)
  told_asked (Err why) = by_test (is_refused (plain S r a).answer) (λ d. rw d) (λ d. rw d)

  join_answer : (c : Chosen X) → (join_with r a c).answer ≡ c.answer
  unfolding join_with
  join_answer c = by_test (is_refused c.answer) (λ d. rw d) (λ d. rw d)

  pub offer_told : rounding_sound r.machine.pipes r.machine.serial r.rounding ≡ true →
      {leave : Result (Unit {0}) Refusal} → leave ≡ leave_of (fitting S r a) (shown_stays S r a) → told_by leave (plain S r a).answer ≡ (choose_rounded S r a).answer
  offer_told s {leave} leave-is =
      told_asked leave ∙ ap (λ (c : Chosen X). c.answer) (leave_checks S r a leave-is) ∙ sym (join_answer (checked S r a)) ∙
      ap (λ (c : RoundedChosen X). c.answer) (sym (chosen_by_checks S r a s))
