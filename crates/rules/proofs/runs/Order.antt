-- The order of a run is a first part of the sheet, and its events carry the sheet's numbers.
use mathlib.Core.Path.{◌≡◌, refl, sym, ap, ◌∙◌}
use mathlib.Core.List.{List, ◌∷◌, ◌++◌}
use Prim.Native.Nat.{ℕ, suc, ◌%◌, ◌<◌}
use lib.ListN.{length, get_or, drop}
use lib.Seq.{drop-cons}
use borrow.Author.Tests.{ne_eqb}
use Rattle.rules.specs.Lists.{Every}
use Rattle.rules.specs.RunState.{Pipeline}
use Rattle.rules.specs.Sources.{Source}
use Rattle.rules.specs.Choices.{Answer, Started, Refused}
use Rattle.rules.specs.WholeRuns.{PipelineInRange, ordered, Carries}
use Rattle.rules.specs.PlainSheet.{Row, rows}
use Rattle.rules.proofs.standing.Standing.{Standing}
use Rattle.rules.proofs.invariant.Invariant.{State}
use Rattle.rules.proofs.choices.Trace.{Trace, rests, refused, stopped, entered, started, finished}
use Rattle.rules.proofs.choices.Answers.{started-accepted, finished-accepted, stopped-accepted}

-- the sheet's rows from a place on
abbrev pub rows_from : Pipeline → List ℕ → ℕ → List Row
rows_from plan order k = rows plan.lines k (drop k order)

rows_next : (plan : Pipeline) (order : List ℕ) (k : ℕ) → k < length order →
    rows_from plan order k ≡ record { token = get_or order k 0; place = k; line = k % plan.lines } ∷ rows_from plan order (suc k)
unfolding rows
rows_next plan order k h = rw (drop-cons order k 0 h)

-- of a later pipe's start the order has nothing
ordered_later : (l p t k w : ℕ) (rest : List Answer) → (p ≡ 0 → ⊥) → ordered (Started l p t k w ∷ rest) ≡ ordered rest
unfolding ordered
ordered_later l p t k w rest n = rw (ne_eqb p 0 n)

ordered_first : (l t k w : ℕ) (rest : List Answer) → ordered (Started l 0 t k w ∷ rest) ≡ record { token = t; place = k; line = l } ∷ ordered rest
unfolding ordered
ordered_first l t k w rest = refl

-- a start at pipe 0 is the next row
entered_order : (plan : Pipeline) (order : List ℕ) (g : Standing) (l placed to w : ℕ) (rest : List Answer) →
    g.place l % plan.lines ≡ l → g.place l ≡ placed → g.place l < length order →
    ordered rest ++ rows_from plan order to ≡ rows_from plan order (suc placed) →
    ordered (Started l 0 (get_or order (g.place l) 0) (g.place l) w ∷ rest) ++ rows_from plan order to ≡ rows_from plan order placed
entered_order plan order g l placed to w rest line e h q =
    rw (ordered_first l (get_or order (g.place l) 0) (g.place l) w rest, ← e, rows_next plan order (g.place l) h, line)
    (ap (λ (r : List Row). record { token = get_or order (g.place l) 0; place = g.place l; line = l } ∷ r)
    (q ∙ ap (λ k. rows_from plan order (suc k)) (sym e)))

module _ {X : Type 0} {S : Source X} {plan : Pipeline} {workers : ℕ} {order : List ℕ} {z : X} {end : State X} {last : Standing} where
  -- the order so far, and the rows still to come, are the rows from where it began
  pub order_part : {st : State X} {g : Standing} {events : List Answer} → Trace S plan workers order z end last st g events →
      ordered events ++ rows_from plan order end.placed ≡ rows_from plan order st.placed
  unfolding ordered
  order_part (rests inv) = refl
  order_part (refused n h t) = order_part t
  order_part (stopped l inv f t) = order_part t ∙ ap (rows_from plan order) f.placed
  order_part (entered {st = st} {g = g} {rest = rest} {w = w} l inv f t) =
      entered_order plan order g l st.placed end.placed w rest (inv.good.line l f.ready.within) f.next f.ordered
      (order_part t ∙ ap (rows_from plan order) f.placed)
  order_part (started {g = g} {rest = rest} {w = w} l inv f t) =
      ap (λ (r : List Row). r ++ rows_from plan order end.placed) (ordered_later l (g.pipe l) _ _ w rest f.later) ∙
      order_part t ∙ ap (rows_from plan order) f.placed
  order_part (finished l inv f t) = order_part t ∙ ap (rows_from plan order) f.placed

  -- no answer is Refused 14
  pub never_spoiled : {st : State X} {g : Standing} {events : List Answer} → Trace S plan workers order z end last st g events →
      Every (λ a. a ≡ Refused 14 → ⊥) events
  never_spoiled (rests inv) = tt
  never_spoiled (refused n h t) = (λ e. h (cc), never_spoiled t)
  never_spoiled (stopped l inv f t) = (stopped-accepted 14, never_spoiled t)
  never_spoiled (entered l inv f t) = (started-accepted 14, never_spoiled t)
  never_spoiled (started l inv f t) = (started-accepted 14, never_spoiled t)
  never_spoiled (finished l inv f t) = (finished-accepted 14, never_spoiled t)

  -- each event carries the sheet's numbers
  pub events_carry : PipelineInRange plan → {st : State X} {g : Standing} {events : List Answer} → Trace S plan workers order z end last st g events →
      Every (Carries plan order) events
  events_carry r (rests inv) = tt
  events_carry r (refused n h t) = (tt, events_carry r t)
  events_carry r (stopped {g = g} l inv f t) = (sym (inv.good.line l f.ready.within) ∙ ap (λ k. k % plan.lines) f.last, events_carry r t)
  events_carry r (entered l inv f t) = (
    record {
      pipe = r.pipes_some;
      place = f.ordered;
      token = refl;
      line = sym (inv.good.line l f.ready.within);
    },
    events_carry r t,
  )
  events_carry r (started l inv f t) = (
    record {
      pipe = inv.good.at l f.ready.within;
      place = f.ordered;
      token = refl;
      line = sym (inv.good.line l f.ready.within);
    },
    events_carry r t,
  )
  events_carry r (finished l inv f t) = (
    record {
      pipe = inv.good.at l f.within;
      place = f.ordered;
      token = refl;
      line = sym (inv.good.line l f.within);
    },
    events_carry r t,
  )
