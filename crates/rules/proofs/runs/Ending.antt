-- The end of a run: nothing can move exactly where the run is over.
use mathlib.Core.Path.{◌≡◌, refl, sym, ap, ◌∙◌}
use mathlib.Core.Bool.{Bool, true, false, not}
use mathlib.Core.List.{List}
use Prim.Native.Nat.{ℕ, zero, suc, ◌+◌, ◌*◌, ◌≤◌, ◌<◌}
use native.Mathlib.Omega.{arith}
use native.Mathlib.Decide.{dec_le}
use lib.ListN.{length, get_or}
use borrow.Author.Tests.{not-true}
use Rattle.rules.specs.Lists.{if}
use Rattle.rules.specs.RunState.{Pipeline, Machine, slot_of, counter_of}
use Rattle.rules.specs.Sources.{Source}
use Rattle.rules.specs.Choices.{ended, movable}
use Rattle.rules.proofs.standing.Standing.{Standing, serial_at, waiting, turn, start_here, turn_no, least_turn, same_place}
use Rattle.rules.proofs.standing.Begin.{waiting_here}
use Rattle.rules.proofs.invariant.Tally.{turn_zero}
use Rattle.rules.proofs.invariant.Invariant.{Allowed, State, whole, First, free, taken, closed, Inv, carried, first_held}
use Rattle.rules.proofs.choices.Steps.{slot_pipe, slot_rests, slot_runs, slot_stopped, busy_full}
use Rattle.rules.proofs.lists.Tests.{same, other, same_as, holds, fails, see, pos_eqb, never}

and_not : (a b : Bool) → a ≡ true → b ≡ false → if a (not b) false ≡ true
and_not a b e f = rw (e, f)

and_not_right : (a b : Bool) → if a (not b) false ≡ true → b ≡ false
and_not_right true b e = not-true b e
and_not_right false b e = absurd (never (sym e))

-- a line that runs, or waits with counter 0
pub data Mobile {X : Type 0} (m : Machine X) (l : ℕ) : Type 0 where
  running : (slot_of m l).running ≡ true → Mobile m l
  due : (slot_of m l).running ≡ false → counter_of m l (slot_of m l).pipe.0 ≡ 0 → Mobile m l

-- a line that neither runs nor may start
pub record Still {X : Type 0} (m : Machine X) (l : ℕ) : Type 0 where
  pub rests : (slot_of m l).running ≡ false
  pub early : 0 < counter_of m l (slot_of m l).pipe.0

module _ {X : Type 0} (m : Machine X) where
  -- where each line is still, nothing is movable
  pub immovable : (n : ℕ) → ((l : ℕ) → l < n → Still m l) → movable m n ≡ false
  unfolding movable
  immovable zero h = refl
  immovable (suc n) h = rw ((h n (omega arith)).rests, pos_eqb (h n (omega arith)).early) (immovable n (λ l k. h l (omega arith)))

  -- where nothing is movable, each line is still
  pub still : (n : ℕ) → movable m n ≡ false → (l : ℕ) → l < n → Still m l
  unfolding movable
  still zero e l h = absurd (omega arith)
  still (suc n) e l h = elim (see (slot_of m n).running) [
    | holds r ↦ absurd (never (rw r at e))
    | fails r ↦ elim (same_as (counter_of m n (slot_of m n).pipe.0) 0) [
      | same c t ↦ absurd (never (rw (r, t) at e))
      | other c t ↦ elim (same_as l n) [
        | same q u ↦ rw q (record { rests = r; early = omega arith })
        | other d u ↦ still n (rw (r, t) at e) l (omega arith)
      ]
    ]
  ]

  -- where something is movable, a line is
  pub mobile : (n : ℕ) → movable m n ≡ true → (l : ℕ) × (l < n) × Mobile m l
  unfolding movable
  mobile zero e = absurd (never (sym e))
  mobile (suc n) e = elim (see (slot_of m n).running) [
    | holds r ↦ (n, omega arith, running r)
    | fails r ↦ elim (same_as (counter_of m n (slot_of m n).pipe.0) 0) [
      | same c t ↦ (n, omega arith, due r c)
      | other c t ↦ let q = mobile n (rw (r, t) at e) in (q.0, omega (arith, q.1), q.2)
    ]
  ]

  ended_if : m.stopped ≡ true → movable m m.lines ≡ false → ended m ≡ true
  unfolding ended
  ended_if s q = and_not m.stopped (movable m m.lines) s q

  ended_only : ended m ≡ true → movable m m.lines ≡ false
  unfolding ended
  ended_only e = and_not_right m.stopped (movable m m.lines) e

-- the line with the least value, of those up to n and of those below n
least_to : (f : ℕ → ℕ) (n : ℕ) → (l : ℕ) × (l < suc n) × ((i : ℕ) → i < suc n → f l ≤ f i)
least_to f zero = (0, omega arith, λ i h. (let e : i ≡ 0 = omega arith in rw e (omega arith)))
least_to f (suc n) =
    let r = least_to f n in
    elim (dec_le (f r.0) (f (suc n))) [
      | yes h ↦ (r.0, omega (arith, r.1), λ i k. elim (same_as i (suc n)) [ same e t ↦ rw e h | other d t ↦ r.2 i (omega arith) ])
      | no h ↦ (suc n, omega arith, λ i k. elim (same_as i (suc n)) [ same e t ↦ rw e (omega arith) | other d t ↦ omega (arith, r.2 i (omega arith)) ])
    ]

pub least : (f : ℕ → ℕ) (n : ℕ) → 0 < n → (l : ℕ) × (l < n) × ((i : ℕ) → i < n → f l ≤ f i)
least f zero h = absurd (omega arith)
least f (suc n) h = least_to f n

-- the run is over: the source has closed, one line has stopped, and every line waits at pipe 0
pub record Over {X : Type 0} (plan : Pipeline) (order : List ℕ) (z : X) (st : State X) (g : Standing) : Type 0 where
  pub stopped : st.stopped ≡ true
  pub placed : st.placed ≡ length order
  pub passed : g.passed 0 ≡ length order
  pub source : st.source ≡ z
  pub stopper : ℕ
  pub stops : First plan g stopper
  pub first : (l : ℕ) → l < plan.lines → g.pipe l ≡ 0

module _ {X : Type 0} {S : Source X} {plan : Pipeline} {workers : ℕ} {order : List ℕ} {z : X} (ok : Allowed plan workers order)
    {st : State X} {g : Standing} (inv : Inv S plan workers order z st g) where
  -- the line with the least place can move, unless it has stopped
  stuck_least : (l : ℕ) → l < plan.lines → ((i : ℕ) → i < plan.lines → g.place l ≤ g.place i) → Still (whole plan workers st) l →
      (st.stopped ≡ true) × First plan g l
  stuck_least l h low still = elim (see (g.busy l)) [
    | fails b ↦
        let c : get_or st.counters (16 * l + g.pipe l) 0 ≡ 0 =
        turn_zero ok.ranged inv.tally inv.good l h b (least_turn ok.ranged g inv.good l h low) in
        let d : 0 < get_or st.counters (16 * l + g.pipe l) 0 = rw (slot_pipe ok inv l h) at still.early in
        absurd (omega arith)
    | holds b ↦ elim (see st.stopped) [
      | fails s ↦ absurd (never (sym (slot_runs ok inv l h b (λ t. absurd (never (sym t ∙ s)))) ∙ still.rests))
      | holds s ↦ elim (same_as (g.pipe l) 0) [
        | other n t ↦ absurd (never (sym (slot_runs ok inv l h b (λ t. n)) ∙ still.rests))
        | same e t ↦ (s, record { within = h; first = e; runs = b })
      ]
    ]
  ]

  -- where nothing can move, the run is over
  pub stuck_over : movable (whole plan workers st) plan.lines ≡ false → Over plan order z st g
  stuck_over e =
      let r = least g.place plan.lines ok.ranged.lines_some in
      let q = stuck_least r.0 r.1 r.2 (still (whole plan workers st) plan.lines e r.0 r.1) in
      elim inv.feed [
        | free s p none m w ↦ absurd (never (sym q.0 ∙ s))
        | taken j f s p m o d w ↦ absurd (never (sym q.0 ∙ s))
        | closed j f s p m o d ↦ record {
          stopped = s;
          placed = p ∙ m;
          passed = m;
          source = d;
          stopper = r.0;
          stops = q.1;
          first = λ l h. elim (same_as (g.pipe l) 0) [
            | same u t ↦ u
            | other n t ↦ absurd (omega (arith, carried ok.ranged inv l h n, r.2 l h, first_held ok.ranged inv r.0 q.1, m))
          ];
        }
      ]

  module _ (over : Over plan order z st g) where
    -- only the line that stopped has the place after the order's last
    pub over_busy : (l : ℕ) → l < plan.lines → g.place l ≡ g.passed 0 → g.busy l ≡ true
    over_busy l h e =
        ap g.busy (same_place ok.ranged g inv.good l over.stopper h over.stops.within
        (e ∙ sym (first_held ok.ranged inv over.stopper over.stops))) ∙ over.stops.runs

    -- a line that waits at pipe 0 has to wait for one that has stopped
    over_early : (l : ℕ) → l < plan.lines → g.busy l ≡ false → 0 < get_or st.counters (16 * l + g.pipe l) 0
    over_early l h b =
        let e : g.pipe l ≡ 0 = over.first l h in
        let none : turn plan g l (g.pipe l) ≡ 0 = turn_no ok.ranged g l (g.pipe l) (λ q.
        never (sym (over_busy l h (sym (start_here ok.ranged g l b) ∙ q ∙ ap g.passed e)) ∙ b)) in
        let two : get_or st.counters (16 * l + g.pipe l) 0 + waiting g l (g.pipe l) + turn plan g l (g.pipe l) ≡ 2 =
        rw (ap (serial_at plan) e ∙ ok.ranged.first_serial) at (inv.tally.counts l (g.pipe l) h (inv.good.at l h)) in
        omega (arith, waiting_here g l b)

    -- where the run is over, nothing can move
    pub over_stuck : movable (whole plan workers st) plan.lines ≡ false
    over_stuck = immovable (whole plan workers st) plan.lines (λ l h. elim (see (g.busy l)) [
      | holds b ↦ record {
        rests = slot_stopped ok inv l h b over.stopped (over.first l h);
        early = rw (
          slot_pipe ok inv l h,
          busy_full ok inv l h b (ap (serial_at plan) (over.first l h) ∙ ok.ranged.first_serial),
        ) (omega arith);
      }
      | fails b ↦ record {
        rests = slot_rests ok inv l h b;
        early = rw (slot_pipe ok inv l h) (over_early l h b);
      }
    ])

    -- so the run has ended
    pub over_ended : ended (whole plan workers st) ≡ true
    over_ended = ended_if (whole plan workers st) over.stopped over_stuck

  -- the run has ended only where it is over
  pub ended_over : ended (whole plan workers st) ≡ true → Over plan order z st g
  ended_over e = stuck_over (ended_only (whole plan workers st) e)

  -- where the run has not ended, some line can move
  pub goes_on : ended (whole plan workers st) ≡ false → movable (whole plan workers st) plan.lines ≡ true
  goes_on e = elim (see (movable (whole plan workers st) plan.lines)) [
    | holds q ↦ q
    | fails q ↦ absurd (never (sym (over_ended (stuck_over q)) ∙ e))
  ]
