-- What an accepted choice does.
use mathlib.Core.Path.{◌≡◌, refl, sym, ap, ◌∙◌}
use mathlib.Core.Bool.{true, false}
use mathlib.Core.List.{List}
use Prim.Native.Nat.{ℕ, suc, ◌+◌, ◌*◌, ◌<◌}
use native.Mathlib.Omega.{arith}
use lib.ListN.{length, get_or, set}
use borrow.Author.Tests.{eq-eqb, ne_eqb, lt-ltb}
use Rattle.vocabulary.specs.declared.Slot.{Slot}
use Rattle.rules.specs.RunState.{Pipeline, idle, runs, waits, slot_at, put_slot, full}
use Rattle.rules.specs.Choices.{Chosen, Answer, Started, Finished, Stopped, next, moved}
use Rattle.rules.specs.Sources.{Source}
use Rattle.rules.specs.Sources.{Passed}
use Rattle.rules.specs.Choices.{start_first, start_later, start, settle, finish_with, finish_first}
use Rattle.rules.specs.Choices.{finish as finish_machine}
use Rattle.rules.proofs.lists.Tests.{same, other, same_as, holds, fails, see, pos_eqb, never}
use Rattle.rules.proofs.standing.Standing.{Standing, serial_at, begin, finish, same_place}
use Rattle.rules.proofs.standing.Begin.{begin_good, begin_busy}
use Rattle.rules.proofs.standing.Finish.{alone, finish_good, finish_busy, finish_busy_else, finish_pipe_else, finish_passed_here}
use Rattle.rules.proofs.invariant.Invariant.{Allowed, State, whole, First, free, taken, closed, Tallied, Inv, carried, first_held}
use Rattle.rules.proofs.invariant.Tally.{zero_turn, begin_tally, first_fall, finish_tally_serial, finish_tally_parallel}
use Rattle.rules.proofs.invariant.Slots.{shown_idle, shown_waits, shown_runs, begin_slotted, stop_slotted, finish_slotted}
use Rattle.rules.proofs.invariant.Feeding.{ends, gives, pull, begin_feed, finish_feed}

-- a line that waits at a pipe where it may start
pub record Ready (plan : Pipeline) (g : Standing) (l : ℕ) : Type 0 where
  pub within : l < plan.lines
  pub waits : g.busy l ≡ false
  pub turns : serial_at plan (g.pipe l) ≡ true → g.place l ≡ g.passed (g.pipe l)

module _ {X : Type 0} (plan : Pipeline) (order : List ℕ) (st : State X) (g : Standing) (l : ℕ) (st' : State X) where
  -- line l stops: the whole order has been placed
  pub record Stops : Type 0 where
    pub ready : Ready plan g l
    pub first : g.pipe l ≡ 0
    pub last : g.place l ≡ length order
    pub before : st.stopped ≡ false
    pub after : st'.stopped ≡ true
    pub placed : st'.placed ≡ st.placed

  -- line l starts pipe 0, with a token that gets the next place
  pub record Enters : Type 0 where
    pub ready : Ready plan g l
    pub first : g.pipe l ≡ 0
    pub ordered : g.place l < length order
    pub next : g.place l ≡ st.placed
    pub stopped : st'.stopped ≡ st.stopped
    pub placed : st'.placed ≡ suc st.placed

  -- line l starts a later pipe
  pub record Starts : Type 0 where
    pub ready : Ready plan g l
    pub later : g.pipe l ≡ 0 → ⊥
    pub ordered : g.place l < length order
    pub stopped : st'.stopped ≡ st.stopped
    pub placed : st'.placed ≡ st.placed

  -- line l finishes its pipe
  pub record Finishes : Type 0 where
    pub within : l < plan.lines
    pub runs : g.busy l ≡ true
    pub ordered : g.place l < length order
    pub stopped : st'.stopped ≡ st.stopped
    pub placed : st'.placed ≡ st.placed

module _ {X : Type 0} (S : Source X) (plan : Pipeline) (workers : ℕ) (order : List ℕ) (z : X) where
  -- a choice has this answer and leaves this state
  pub record Next (c : Chosen X) (a : Answer) (st : State X) (g : Standing) : Type 0 where
    pub is : c ≡ record { answer = a; machine = whole plan workers st }
    pub kept : Inv S plan workers order z st g

  -- the answer of such a choice
  pub next_answer : {c : Chosen X} {a : Answer} {st : State X} {g : Standing} → Next c a st g → c.answer ≡ a
  next_answer n = ap (λ (c : Chosen X). c.answer) n.is

  -- what an accepted choice of worker w and line l does
  pub data Move (st : State X) (g : Standing) (w l : ℕ) (c : Chosen X) : Type 0 where
    stops : (st' : State X) → Stops plan order st g l st' → Next c (Stopped l w) st' (begin g l) → Move st g w l c
    enters : (st' : State X) → Enters plan order st g l st' →
        Next c (Started l 0 (get_or order (g.place l) 0) (g.place l) w) st' (begin g l) → Move st g w l c
    starts : (st' : State X) → Starts plan order st g l st' →
        Next c (Started l (g.pipe l) (get_or order (g.place l) 0) (g.place l) w) st' (begin g l) → Move st g w l c
    finishes : (st' : State X) → Finishes plan order st g l st' →
        Next c (Finished l (g.pipe l) (get_or order (g.place l) 0) (g.place l) w) st' (finish plan g l) → Move st g w l c

module _ {X : Type 0} {S : Source X} {plan : Pipeline} {workers : ℕ} {order : List ℕ} {z : X} (ok : Allowed plan workers order)
    {st : State X} {g : Standing} (inv : Inv S plan workers order z st g) (w : ℕ) (manned : w < workers) (l : ℕ) (i : l < plan.lines) where
  module _ (b : g.busy l ≡ true) (n : st.stopped ≡ true → g.pipe l ≡ 0 → ⊥) (own : (slot_at st.slots l).worker.0 ≡ w) where
    -- the machine that a finish leaves, with what the source has become
    leaves : List ℕ → X → State X
    leaves c x = record {
      counters = c;
      slots = put_slot st.slots l (moved plan.pipes (runs (g.pipe l) (get_or order (g.place l) 0) (g.place l) w));
      placed = st.placed;
      stopped = st.stopped;
      source = x;
    }

    finished : (x : X) → (c : List ℕ) × Tallied plan c (finish plan g l) ×
        (finish_with S (whole plan workers st) l (runs (g.pipe l) (get_or order (g.place l) 0) (g.place l) w) x ≡
        record { answer = Finished l (g.pipe l) (get_or order (g.place l) 0) (g.place l) w; machine = whole plan workers (leaves c x) })
    unfolding finish_with settle leaves
    finished x = elim (see (serial_at plan (g.pipe l))) [
      | holds s ↦
          let a : 0 < get_or st.counters (16 * next plan.lines l + g.pipe l) 0 = first_fall ok.ranged inv.tally inv.good l i b s in
          let r = finish_tally_serial ok.ranged inv.tally inv.good l i b s in
          (_, r.1, rw (s, pos_eqb a, pos_eqb r.0))
      | fails s ↦
          let r = finish_tally_parallel ok.ranged inv.tally inv.good l i b s in
          (_, r.1, rw (s, pos_eqb r.0))
    ]

    slot_here : slot_at st.slots l ≡ runs (g.pipe l) (get_or order (g.place l) 0) (g.place l) w
    slot_here =
        let u = inv.slotted.used l i in
        let e : slot_at st.slots l ≡ runs (g.pipe l) (get_or order (g.place l) 0) (g.place l) u.worker =
        u.is ∙ shown_runs order st.stopped g l u.worker n b in
        e ∙ ap (runs (g.pipe l) (get_or order (g.place l) 0) (g.place l)) (sym (ap (λ (s : Slot). s.worker.0) e) ∙ own)

    -- a finish past pipe 0
    later_finish : (m : g.pipe l ≡ 0 → ⊥) → Move S plan workers order z st g w l (finish_machine S (whole plan workers st) l)
    unfolding finish_machine leaves
    later_finish m =
        let r = finished st.source in
        finishes (leaves r.0 st.source)
        (record { within = i; runs = b; ordered = carried ok.ranged inv l i m; stopped = refl; placed = refl }) (record {
          is = rw (slot_here, ne_eqb (g.pipe l) 0 m) r.2;
          kept = record {
            good = finish_good ok.ranged g l b inv.good i;
            tally = r.1;
            slotted = finish_slotted ok.ranged inv.slotted l i w manned b;
            feed = finish_feed ok.ranged l _ _ b m inv.feed;
          };
        })

    -- once a line has finished pipe 0, no line runs it
    nobody : g.pipe l ≡ 0 → (j : ℕ) → First plan (finish plan g l) j → ⊥
    nobody e j f = elim (same_as j l) [
      | same q t ↦ never (sym f.runs ∙ ap (finish plan g l).busy q ∙ finish_busy ok.ranged g l b)
      | other d t ↦
          let o : g.pipe j ≡ 0 = sym (finish_pipe_else ok.ranged g l b j d) ∙ f.first in
          alone ok.ranged g l b inv.good i j f.within d (sym (finish_busy_else ok.ranged g l b j d) ∙ f.runs)
          (ap (serial_at plan) o ∙ ok.ranged.first_serial) (o ∙ sym e)
    ]

    -- a finish at pipe 0, of the token that was placed last
    first_finish : g.pipe l ≡ 0 → Move S plan workers order z st g w l (finish_machine S (whole plan workers st) l)
    unfolding finish_machine finish_first leaves
    first_finish e = elim inv.feed [
      | free s p none m y ↦ absurd (none l (record { within = i; first = e; runs = b }))
      | closed j f s p m o q ↦ absurd (n s e)
      | taken {x = x} j f s p m o q y ↦
          let k : g.place l ≡ g.passed 0 = first_held ok.ranged inv l (record { within = i; first = e; runs = b }) in
          let r = finished x in
          let p0 : (finish plan g l).passed 0 ≡ suc (g.passed 0) =
          ap (finish plan g l).passed (sym e) ∙
          finish_passed_here ok.ranged g l b (ap (serial_at plan) e ∙ ok.ranged.first_serial) ∙ ap (λ c. suc (g.passed c)) e in
          let q' : S.release (get_or order (g.place l) 0) st.source ≡ Passed x = rw k q in
          finishes (leaves r.0 x) (record { within = i; runs = b; ordered = omega arith; stopped = refl; placed = refl }) (record {
            is = rw (slot_here, eq-eqb (g.pipe l) 0 e, q') r.2;
            kept = record {
              good = finish_good ok.ranged g l b inv.good i;
              tally = r.1;
              slotted = finish_slotted ok.ranged inv.slotted l i w manned b;
              feed = free s (p ∙ sym p0) (nobody e) (rw p0 m) (rw p0 y);
            };
          })
    ]

    -- a running line's finish is a move
    pub finish_move : Move S plan workers order z st g w l (finish_machine S (whole plan workers st) l)
    finish_move = elim (same_as (g.pipe l) 0) [ same e t ↦ first_finish e | other m t ↦ later_finish m ]

  module _ (b : g.busy l ≡ false) (c : get_or st.counters (16 * l + g.pipe l) 0 ≡ 0) where
    turn_here : serial_at plan (g.pipe l) ≡ true → g.place l ≡ g.passed (g.pipe l)
    turn_here = zero_turn ok.ranged inv.tally inv.good l i b c

    ready : Ready plan g l
    ready = record { within = i; waits = b; turns = turn_here }

    -- a start past pipe 0
    later_start : (g.pipe l ≡ 0 → ⊥) → Move S plan workers order z st g w l (start S (whole plan workers st) w l)
    unfolding start start_later
    later_start m =
        let slot : slot_at st.slots l ≡ waits (g.pipe l) (get_or order (g.place l) 0) (g.place l) =
        (inv.slotted.used l i).is ∙ shown_waits order st.stopped g l (inv.slotted.used l i).worker m b in
        starts (record {
          counters = set st.counters (16 * l + g.pipe l) (full (serial_at plan (g.pipe l)));
          slots = put_slot st.slots l (runs (g.pipe l) (get_or order (g.place l) 0) (g.place l) w);
          placed = st.placed;
          stopped = st.stopped;
          source = st.source;
        })
        (record { ready = ready; later = m; ordered = carried ok.ranged inv l i m; stopped = refl; placed = refl }) (record {
          is = rw (slot, ne_eqb (g.pipe l) 0 m);
          kept = record {
            good = begin_good ok.ranged g l b inv.good i turn_here;
            tally = begin_tally ok.ranged inv.tally inv.good l i b turn_here;
            slotted = begin_slotted ok.ranged inv.slotted l i w manned b (λ s e. m e);
            feed = begin_feed ok.ranged l _ _ b m inv.feed;
          };
        })

    module _ (e : g.pipe l ≡ 0) where
      slot_idle : slot_at st.slots l ≡ idle
      slot_idle = (inv.slotted.used l i).is ∙ shown_idle order st.stopped g l (inv.slotted.used l i).worker e b

      place_next : g.place l ≡ g.passed 0
      place_next = turn_here (ap (serial_at plan) e ∙ ok.ranged.first_serial) ∙ ap g.passed e

      -- where a line may start at pipe 0, nobody runs it
      nobody_first : (j : ℕ) → First plan g j → ⊥
      nobody_first j f =
          never (sym f.runs ∙ ap g.busy (same_place ok.ranged g inv.good j l f.within i (first_held ok.ranged inv j f ∙ sym place_next)) ∙ b)

      first_tally : Tallied plan (set st.counters (16 * l + 0) (full (serial_at plan 0))) (begin g l)
      first_tally = rw e at (begin_tally ok.ranged inv.tally inv.good l i b turn_here)

      first_runs : First plan (begin g l) l
      unfolding begin
      first_runs = record { within = i; first = e; runs = begin_busy ok.ranged g l b }

      first_start : Move S plan workers order z st g w l (start S (whole plan workers st) w l)
      unfolding start start_first begin
      first_start = elim inv.feed [
        | taken j f s p m o q y ↦ absurd (nobody_first j f)
        | closed j f s p m o q ↦ absurd (nobody_first j f)
        | free s p none m y ↦ elim (pull S order z (g.passed 0) m y refl) [
          | ends t o q ↦
              stops (record {
                counters = set st.counters (16 * l + 0) (full (serial_at plan 0));
                slots = st.slots;
                placed = st.placed;
                stopped = true;
                source = z;
              })
              (record { ready = ready; first = e; last = place_next ∙ q; before = s; after = refl; placed = refl }) (record {
                is = rw (slot_idle, t);
                kept = record {
                  good = begin_good ok.ranged g l b inv.good i turn_here;
                  tally = first_tally;
                  slotted = stop_slotted ok.ranged inv.slotted l i b e nobody_first;
                  feed = closed l first_runs refl p q o refl;
                };
              })
          | gives y x h t o q v ↦
              enters (record {
                counters = set st.counters (16 * l + 0) (full (serial_at plan 0));
                slots = put_slot st.slots l (runs 0 (get_or order (g.place l) 0) (g.place l) w);
                placed = suc st.placed;
                stopped = st.stopped;
                source = y;
              })
              (record { ready = ready; first = e; ordered = omega (arith, place_next); next = place_next ∙ sym p; stopped = refl; placed = refl }) (record {
                is = rw (slot_idle, t, lt-ltb st.placed plan.tokens (omega arith), place_next, p);
                kept = record {
                  good = begin_good ok.ranged g l b inv.good i turn_here;
                  tally = first_tally;
                  slotted = rw e at (begin_slotted ok.ranged inv.slotted l i w manned b (λ a d. never (sym a ∙ s)));
                  feed = taken {x = x} l first_runs s (ap suc p) h o q v;
                };
              })
        ]
      ]

    -- a waiting line's start is a move
    pub start_move : Move S plan workers order z st g w l (start S (whole plan workers st) w l)
    start_move = elim (same_as (g.pipe l) 0) [ same e t ↦ first_start e | other m t ↦ later_start m ]
