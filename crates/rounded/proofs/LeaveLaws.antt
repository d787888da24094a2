-- What rounding says of a choice before it is made: for one that is accepted it is what its answer says.
use mathlib.Core.Path.{◌≡◌, refl, sym, ap, ◌∙◌}
use mathlib.Core.Bool.{Bool, true, false}
use mathlib.Core.List.{List}
use Prim.Native.Nat.{ℕ, ◌≤◌, ◌<◌}
use lib.Dec.{leb, ltb, eqb}
use lib.ListN.{length}
use Rattle.std.specs.Prelude.{Result, Ok, Err, is_ok}
use Rattle.vocabulary.specs.declared.refusal.Refusal.{Refusal}
use borrow.Author.Tests.{lt-ltb, le-ltb, eq-eqb, ne_eqb}
use Rattle.vocabulary.specs.declared.Slots.{Slots}
use Rattle.vocabulary.specs.Refusals.{number_of}
use Rattle.rules.specs.Answers.{answer_of}
use Rattle.vocabulary.specs.declared.event.Event.{Event}
use Rattle.rules.specs.Sources.{Source, Taken, Spoiled, Nothing, Took}
use Rattle.rules.specs.RunState.{Machine, slot_at, slot_of}
use Rattle.rules.specs.Choices.{Refused, Chosen, start_first, start_later, start, choose}
use Rattle.rules.specs.Offers.{is_refused, only_if, shown}
use Rattle.engine.specs.Taking.{other_of}
use Rattle.rules.specs.Rounding.{sum_most, Rounding, lent_fits, lent_count, NonePasses, passing, sum_after}
use Rattle.rules.proofs.lists.Tests.{by_test}
use Rattle.rules.proofs.choices.Offered.{shown_accepted, line_accepted}
use Rattle.rounding.specs.Settlings.{passer}
use Rattle.rounding.proofs.laws.Settlings.{by_start, by_stop, by_refusal, passing_finished}
use Rattle.rounded.specs.Leaves.{passer_at, fits_by, leave_of, told_by}

-- how many are lent
pub count_none : (tokens : ℕ) (r : Rounding) → r.base ≡ 0 → 0 ≡ lent_count tokens r
unfolding lent_count
count_none tokens r e = rw (eq-eqb r.base 0 e)

pub count_all : (tokens : ℕ) (r : Rounding) → (r.base ≡ 0 → ⊥) → tokens ≡ lent_count tokens r
unfolding lent_count
count_all tokens r e = rw (ne_eqb r.base 0 e)

-- by how many figures there are, or by the figures
pub fits_by_lem : (tokens : ℕ) (r : Rounding) (cells figures : List ℕ) → fits_by tokens r cells (length figures) ≡ lent_fits (lent_count tokens r) cells figures
unfolding fits_by lent_fits
fits_by_lem tokens r cells figures = refl

-- whose cell passes
module _ (r : Rounding) (slots : Slots) (l : ℕ) where
  pub passer_out : 32 ≤ l → passer_at r slots l ≡ NonePasses
  unfolding passer_at
  passer_out h = rw (le-ltb l 32 h)

  pub passer_waits : l < 32 → (slot_at slots l).running ≡ false → passer_at r slots l ≡ NonePasses
  unfolding passer_at
  passer_waits h e = rw (lt-ltb l 32 h, e)

  pub passer_runs : l < 32 → (slot_at slots l).running ≡ true → passer_at r slots l ≡ passer r (slot_at slots l).pipe.0 (slot_at slots l).token.0
  unfolding passer_at
  passer_runs h e = rw (lt-ltb l 32 h, e)

-- nobody passes by a start
module _ {X : Type 0} (S : Source X) (r : Rounding) (m : Machine X) (w l : ℕ) where
  first_passes : (o : Taken X) → passing r (start_first S m w l o).answer ≡ NonePasses
  unfolding start_first
  first_passes Spoiled = sym (by_refusal r 14)
  first_passes (Nothing x) = sym (by_stop r l w)
  first_passes (Took t x) = by_test (ltb m.placed m.tokens) (λ e. rw e (sym (by_start r l 0 t m.placed w))) (λ e. rw e (sym (by_refusal r 14)))

  start_passes : passing r (start S m w l).answer ≡ NonePasses
  unfolding start start_later
  start_passes = by_test (eqb (slot_of m l).pipe.0 0)
      (λ e. rw e (first_passes (S.take m.source)))
      (λ e. rw e (sym (by_start r l (slot_of m l).pipe.0 (slot_of m l).token.0 (slot_of m l).place.0 w)))

  shown_passes : l < 32 → passing r (shown S m w l) ≡ passer_at r m.slots l
  unfolding shown
  shown_passes h = by_test (slot_of m l).running
      (λ e. rw e (passing_finished r l (slot_of m l).pipe.0 (slot_of m l).token.0 (slot_of m l).place.0 (slot_of m l).worker.0 ∙ sym (passer_runs r m.slots l h e)))
      (λ e. rw e (start_passes ∙ sym (passer_waits r m.slots l h e)))

  -- who passes by a choice that is accepted
  pub choice_passes : is_refused (choose S m w l).answer ≡ false → passing r (choose S m w l).answer ≡ passer_at r m.slots l
  choice_passes ok = ap (passing r) (shown_accepted S m w l ok) ∙ shown_passes (line_accepted S m w l ok)

-- a choice that is made only with leave
abbrev pub with_leave : {X : Type 0} → Machine X → Result (Unit {0}) Refusal → Chosen X → Chosen X
with_leave m leave c = only_if m (is_ok leave) (other_of leave) c

-- the two numbers of rounding, one after the other, or told before the choice
pub leave_once : {X : Type 0} (m : Machine X) (fits stays : Bool) (c : Chosen X) →
    with_leave m (leave_of fits stays) c ≡ only_if m stays 14 (only_if m fits 18 c)
unfolding leave_of only_if
leave_once m true true c = by_test (is_refused c.answer) (λ e. rw (e, e)) (λ e. rw (e, e))
leave_once m true false c = by_test (is_refused c.answer) (λ e. rw (e, e)) (λ e. rw (e, e))
leave_once m false stays c = by_test (is_refused c.answer) (λ e. rw (e, e)) (λ e. rw e)

-- leave, case by case
module _ {fits : Bool} (stays : Bool) where
  pub leave_unfit : fits ≡ false → Err Refusal.Lent ≡ leave_of fits stays
  unfolding leave_of
  leave_unfit e = rw e

  pub leave_past : fits ≡ true → stays ≡ false → Err Refusal.Spoiled ≡ leave_of fits stays
  unfolding leave_of
  leave_past e h = rw (e, h)

  pub leave_given : fits ≡ true → stays ≡ true → Ok tt ≡ leave_of fits stays
  unfolding leave_of
  leave_given e h = rw (e, h)

-- a refusal of its own comes first
pub own_told : (leave : Result (Unit {0}) Refusal) (n : ℕ) → Refused n ≡ told_by leave (Refused n)
own_told (Ok u) n = refl
own_told (Err why) n = refl

-- an event is refused as rounding says
pub event_told : (why : Refusal) (e : Event) → Refused (number_of why) ≡ told_by (Err why) (answer_of (Ok e))
unfolding answer_of
event_told why (Event.Started s) = refl
event_told why (Event.Finished s) = refl
event_told why (Event.Stopped s) = refl

-- T after the line has acted
module _ (r : Rounding) (cells : List ℕ) (slots : Slots) (l : ℕ) where
  pub stays_runs : l < 32 → (slot_at slots l).running ≡ true →
      leb (sum_after r cells (passer r (slot_at slots l).pipe.0 (slot_at slots l).token.0)) sum_most ≡ leb (sum_after r cells (passer_at r slots l)) sum_most
  stays_runs h e = ap (λ p. leb (sum_after r cells p) sum_most) (sym (passer_runs r slots l h e))

  pub stays_waits : l < 32 → (slot_at slots l).running ≡ false → leb r.sum sum_most ≡ leb (sum_after r cells (passer_at r slots l)) sum_most
  stays_waits h e = ap (λ p. leb (sum_after r cells p) sum_most) (sym (passer_waits r slots l h e))

  pub stays_out : 32 ≤ l → leb r.sum sum_most ≡ leb (sum_after r cells (passer_at r slots l)) sum_most
  stays_out h = ap (λ p. leb (sum_after r cells p) sum_most) (sym (passer_out r slots l h))
