-- An offer, and the taking of what was offered: together the choice.
use mathlib.Core.Path.{◌≡◌, refl, sym, ap, subst, ◌∙◌}
use mathlib.Core.Bool.{Bool, true, false}
use Prim.Native.Nat.{ℕ, ◌<◌}
use borrow.Author.Tests.{eq-eqb, eqb-true}
use native.Mathlib.Omega.{arith}
use lib.Dec.{eqb}
use Rattle.vocabulary.specs.declared.Slot.{Slot}
use Rattle.vocabulary.specs.declared.event.Event.{Event}
use Rattle.vocabulary.specs.declared.event.EventRecord.{EventRecord}
use Rattle.vocabulary.specs.Events.{event_record, same_record}
use Rattle.rules.specs.Lists.{if}
use Rattle.rules.specs.Sources.{Source, Taken, Spoiled, Nothing, Took}
use Rattle.rules.specs.RunState.{Machine, slot_of}
use Rattle.rules.specs.Choices.{Answer, Started, Finished, Stopped, Refused, Chosen, refuse, choose, choose_by}
use Rattle.rules.specs.WholeRuns.{Accepted}
use Rattle.rules.specs.Offers.{is_refused, record_of, event_of, named, only_if, shown, take_offered}
use Rattle.rules.proofs.lists.Tests.{by_test, never, holds, fails, see}
use Rattle.rules.proofs.choices.SoundMachines.{lines_most}
use Rattle.rules.proofs.choices.Accepting.{accepted_sound, accepted_line, accepted_worker, accepted_own, accepted_idle, starts_too}
use Rattle.rules.proofs.choices.Outcomes.{enter_effect, effect, releases, finishes, by_effect, refused_unchanged, accepted_choice}

-- a record agrees with itself in every field, and two that agree are one
pub same_itself : (r : EventRecord) → same_record r r ≡ true
unfolding same_record
same_itself r = rw (eq-eqb r.kind r.kind refl, eq-eqb r.line r.line refl, eq-eqb r.pipe r.pipe refl, eq-eqb r.token r.token refl, eq-eqb r.place r.place refl, eq-eqb r.worker r.worker refl)

if_both : (b c : Bool) → if b c false ≡ true → (b ≡ true) × (c ≡ true)
if_both true c e = (refl, e)
if_both false c e = absurd (never (sym e))

pub same_fields : (a b : EventRecord) → same_record a b ≡ true → a ≡ b
unfolding same_record
same_fields a b e =
    let (kind, e₁) = if_both (eqb a.kind b.kind) _ e in
    let (line, e₂) = if_both (eqb a.line b.line) _ e₁ in
    let (pipe, e₃) = if_both (eqb a.pipe b.pipe) _ e₂ in
    let (token, e₄) = if_both (eqb a.token b.token) _ e₃ in
    let (place, worker) = if_both (eqb a.place b.place) _ e₄ in
    λ i. record {
      kind = eqb-true a.kind b.kind kind i;
      line = eqb-true a.line b.line line i;
      pipe = eqb-true a.pipe b.pipe pipe i;
      token = eqb-true a.token b.token token i;
      place = eqb-true a.place b.place place i;
      worker = eqb-true a.worker b.worker worker i;
    }

-- an event's record is that of the answer that it is, and it is no refusal
pub record_is : (e : Event) → record_of (event_of e) ≡ event_record e
record_is (Event.Started s) = refl
record_is (Event.Finished s) = refl
record_is (Event.Stopped s) = refl

pub event_accepted : (e : Event) → is_refused (event_of e) ≡ false
event_accepted (Event.Started s) = refl
event_accepted (Event.Finished s) = refl
event_accepted (Event.Stopped s) = refl

-- an answer is a refusal or is none
pub is_accepted_lem : (a : Answer) → is_refused a ≡ false → Accepted a
is_accepted_lem a e n a-is = never (sym (ap is_refused a-is) ∙ e)

pub not_refused : (a : Answer) → Accepted a → is_refused a ≡ false
not_refused (Started l p t k w) ok = refl
not_refused (Finished l p t k w) ok = refl
not_refused (Stopped l w) ok = refl
not_refused (Refused n) ok = absurd (ok n refl)

-- an accepted choice's event names the worker and the line that were chosen
module _ {X : Type 0} (S : Source X) (m : Machine X) (w l : ℕ) where
  abbrev Names : Answer → Type 0
  Names a = named (record_of a) ≡ record { worker = w; line = l }

  enter_names : (s : Slot) (o : Taken X) → Accepted (enter_effect m l s w o).answer → Names (enter_effect m l s w o).answer
  unfolding enter_effect
  enter_names s Spoiled ok = absurd (ok 14 refl)
  enter_names s (Nothing x) ok = refl
  enter_names s (Took t x) ok = refl

  effect_names : ((slot_of m l).running ≡ true → (slot_of m l).worker.0 ≡ w) → Accepted (effect S m w l (slot_of m l)).answer →
      Names (effect S m w l (slot_of m l)).answer
  effect_names own =
      by_effect S m w l (slot_of m l) (λ e. Accepted e.answer → Names e.answer)
      (λ r ok. ap (λ v. record { worker = v; line = l }) (own r))
      (λ r ok. ap (λ v. record { worker = v; line = l }) (own r))
      (λ r. enter_names (slot_of m l) (S.take m.source))
      (λ r ok. refl)

  pub names_choice : Accepted (choose S m w l).answer → Names (choose S m w l).answer
  names_choice ok =
      let answer-is : (choose S m w l).answer ≡ (effect S m w l (slot_of m l)).answer = ap (λ c. c.answer) (accepted_choice S m w l ok).1 in
      subst Names (sym answer-is) (effect_names (accepted_own S m w l ok) (subst Accepted answer-is ok))

-- an accepted choice gives what its line's slot and the source say
module _ {X : Type 0} (S : Source X) (m : Machine X) (w l : ℕ) where
  finish_shown : (slot_of m l).running ≡ true → (effect S m w l (slot_of m l)).answer ≡
      Finished l (slot_of m l).pipe.0 (slot_of m l).token.0 (slot_of m l).place.0 (slot_of m l).worker.0
  finish_shown r = by_test (eqb (slot_of m l).pipe.0 0)
      (λ e. ap (λ x. x.answer) (releases S m w l (slot_of m l) r e))
      (λ e. ap (λ x. x.answer) (finishes S m w l (slot_of m l) r e))

  pub shown_accepted : is_refused (choose S m w l).answer ≡ false → (choose S m w l).answer ≡ shown S m w l
  unfolding shown
  shown_accepted taken =
      let ok : Accepted (choose S m w l).answer = is_accepted_lem (choose S m w l).answer taken in
      by_test (slot_of m l).running
      (λ r. rw r (ap (λ c. c.answer) (accepted_choice S m w l ok).1 ∙ finish_shown r))
      (λ r. rw r (ap (λ c. c.answer) (starts_too S m w l ok r w (accepted_worker S m w l ok) (accepted_idle S m w l ok r))))

  -- and its line is one of 32
  pub line_accepted : is_refused (choose S m w l).answer ≡ false → l < 32
  line_accepted taken =
      let ok : Accepted (choose S m w l).answer = is_accepted_lem (choose S m w l).answer taken in
      omega (arith, accepted_line S m w l ok, lines_most S m (accepted_sound S m w l ok))

-- what is made only if something holds: its own refusal, where it does not hold, where it does
module _ {X : Type 0} (m : Machine X) (agreed : Bool) (n : ℕ) (c : Chosen X) where
  pub only_refused : is_refused c.answer ≡ true → only_if m agreed n c ≡ c
  unfolding only_if
  only_refused e = rw e

  pub only_other : is_refused c.answer ≡ false → agreed ≡ false → only_if m agreed n c ≡ refuse m n
  unfolding only_if
  only_other ok e = rw (ok, e)

  pub only_same : agreed ≡ true → only_if m agreed n c ≡ c
  unfolding only_if
  only_same e = by_test (is_refused c.answer) (λ h. rw h) (λ h. rw (h, e))

-- what holds counts only where the choice is accepted
pub only_as : {X : Type 0} (m : Machine X) (a b : Bool) (n : ℕ) (c : Chosen X) → (is_refused c.answer ≡ false → a ≡ b) → only_if m a n c ≡ only_if m b n c
only_as m a b n c alike = elim (see (is_refused c.answer)) [
  | holds turned ↦ only_refused m a n c turned ∙ sym (only_refused m b n c turned)
  | fails ok ↦ ap (λ x. only_if m x n c) (alike ok)
]

module _ {X : Type 0} (S : Source X) (m : Machine X) where
  -- an event that a choice gives is taken as the choice is made
  pub taken_as_chosen : (w l : ℕ) (e : Event) → (choose S m w l).answer ≡ event_of e → take_offered S m e ≡ choose S m w l
  taken_as_chosen w l e told =
      let own : record_of (choose S m w l).answer ≡ event_record e = ap record_of told ∙ record_is e in
      let ok : is_refused (choose S m w l).answer ≡ false = ap is_refused told ∙ event_accepted e in
      let choice-is : named (event_record e) ≡ record { worker = w; line = l } = ap named (sym own) ∙ names_choice S m w l (is_accepted_lem _ ok) in
      ap (λ v. only_if m (same_record (record_of (choose_by S m v).answer) (event_record e)) 19 (choose_by S m v)) choice-is ∙
      only_same m (same_record (record_of (choose S m w l).answer) (event_record e)) 19 (choose S m w l) (ap (λ r. same_record r (event_record e)) own ∙ same_itself (event_record e))

-- the answer that a record is of
abbrev answer_at : EventRecord → Answer
answer_at r =
    if (eqb r.kind 83) (Started r.line r.pipe r.token r.place r.worker)
    (if (eqb r.kind 70) (Finished r.line r.pipe r.token r.place r.worker)
    (Stopped r.line r.worker))

record_back : (a : Answer) → is_refused a ≡ false → answer_at (record_of a) ≡ a
record_back (Started l p t k w) ok = refl
record_back (Finished l p t k w) ok = refl
record_back (Stopped l w) ok = refl
record_back (Refused n) ok = absurd (never ok)

-- an answer that agrees with an event in every field is that event
pub same_event : (a : Answer) (e : Event) → is_refused a ≡ false → same_record (record_of a) (event_record e) ≡ true → a ≡ event_of e
same_event a e ok same =
    sym (record_back a ok) ∙ ap answer_at (same_fields (record_of a) (event_record e) same ∙ sym (record_is e)) ∙ record_back (event_of e) (event_accepted e)

-- the choice that an event names, and its taking, in any machine
module _ {X : Type 0} (S : Source X) (m : Machine X) (e : Event) where
  abbrev chosen : Chosen X
  chosen = choose_by S m (named (event_record e))

  abbrev agreed : Bool
  agreed = same_record (record_of chosen.answer) (event_record e)

  -- the choice's own refusal comes first
  pub taken_own : (n : ℕ) → chosen.answer ≡ Refused n → take_offered S m e ≡ refuse m n
  taken_own n told =
      only_refused m agreed 19 chosen (ap is_refused told) ∙
      (λ i. record { answer = told i; machine = refused_unchanged S m (event_record e).worker (event_record e).line n told i })

  -- then 19, if its event is another
  pub taken_other : is_refused chosen.answer ≡ false → (chosen.answer ≡ event_of e → ⊥) → take_offered S m e ≡ refuse m 19
  taken_other ok other =
      only_other m agreed 19 chosen ok (by_test agreed
      (λ same. absurd (other (same_event chosen.answer e ok same))) (λ differs. differs))

  -- so a taking that is accepted gives just the event, and is the choice
  module _ (accepts : is_refused (take_offered S m e).answer ≡ false) where
    own_accepted : is_refused chosen.answer ≡ false
    own_accepted = by_test (is_refused chosen.answer)
        (λ turned. absurd (never (sym turned ∙ ap (λ c. is_refused c.answer) (sym (only_refused m agreed 19 chosen turned)) ∙ accepts)))
        (λ ok. ok)

    differs_not : agreed ≡ true
    differs_not = by_test agreed
        (λ same. same)
        (λ other. absurd (never (ap (λ c. is_refused c.answer) (sym (only_other m agreed 19 chosen own_accepted other)) ∙ accepts)))

    pub taken_chosen : take_offered S m e ≡ chosen
    taken_chosen = only_same m agreed 19 chosen differs_not

    pub taken_event : (take_offered S m e).answer ≡ event_of e
    taken_event = ap (λ c. c.answer) taken_chosen ∙ same_event chosen.answer e own_accepted differs_not

  own_unchanged : (a : Answer) → chosen.answer ≡ a → is_refused a ≡ true → chosen.machine ≡ m
  own_unchanged (Started l p t k w) told turned = absurd (never (sym turned))
  own_unchanged (Finished l p t k w) told turned = absurd (never (sym turned))
  own_unchanged (Stopped l w) told turned = absurd (never (sym turned))
  own_unchanged (Refused n) told turned = refused_unchanged S m (event_record e).worker (event_record e).line n told

  -- and one that is refused changes nothing
  pub taken_unchanged : is_refused (take_offered S m e).answer ≡ true → (take_offered S m e).machine ≡ m
  taken_unchanged refused = elim (see (is_refused chosen.answer)) [
    | holds turned ↦
        let same = only_refused m agreed 19 chosen turned in
        ap (λ c. c.machine) same ∙ own_unchanged chosen.answer refl turned
    | fails ok ↦ elim (see agreed) [
      | holds same ↦ absurd (never (sym refused ∙ ap (λ c. is_refused c.answer) (only_same m agreed 19 chosen same) ∙ ok))
      | fails other ↦ ap (λ c. c.machine) (only_other m agreed 19 chosen ok other)
    ]
  ]
