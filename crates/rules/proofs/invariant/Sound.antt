-- Every number of a machine that the invariant holds of is within its range.
use mathlib.Core.Path.{◌≡◌, refl, sym, ◌∙◌, subst}
use mathlib.Core.Bool.{Bool, true, false}
use mathlib.Core.List.{List}
use Prim.Native.Nat.{ℕ, zero, suc, ◌+◌, ◌*◌, ◌/◌, ◌%◌, ◌≤◌, ◌<◌}
use native.Mathlib.Omega.{arith}
use lib.Dec.{ltb}
use lib.ListN.{length, get_or}
use borrow.Author.Tests.{le-leb, lt-ltb}
use Rattle.rules.specs.Lists.{if, every}
use Rattle.vocabulary.specs.declared.Slot.{Slot}
use Rattle.rules.specs.RunState.{Pipeline, idle, slot_at}
use Rattle.rules.specs.Sources.{Source}
use Rattle.rules.specs.Ranges.{sound, numbers_sound, is_idle, is_loaded, worker_sound, slot_sound, most_at, counter_sound, serial_sound}
use Rattle.rules.specs.Lists.{within}
use Rattle.rules.proofs.lists.Tests.{same, other, same_as, lower, upper, below, holds, fails, see, never}
use Rattle.rules.proofs.standing.Standing.{Standing, serial_at}
use Rattle.rules.proofs.invariant.Slots.{token_of, shown_idle, shown_stopped, shown_waits, shown_runs}
use Rattle.rules.proofs.invariant.Invariant.{Allowed, State, whole, First, free, taken, closed, Inv, placed_most, source_sound, carried, first_held}

-- one more test of a list holds
both : {a b : Bool} → a ≡ true → b ≡ true → if a b false ≡ true
both e f = rw e f

-- a test that holds of each number below n
pub every_holds : (n : ℕ) (f : ℕ → Bool) → ((i : ℕ) → i < n → f i ≡ true) → every n f ≡ true
unfolding every
every_holds zero f h = refl
every_holds (suc n) f h = both (h n (omega arith)) (every_holds n f (λ i k. h i (omega arith)))

pub within_range : (low high n : ℕ) → low ≤ n → n ≤ high → within low high n ≡ true
unfolding within
within_range low high n h k = rw (le-leb low n h, le-leb n high k)

module _ {X : Type 0} {S : Source X} {plan : Pipeline} {workers : ℕ} {order : List ℕ} {z : X} (ok : Allowed plan workers order)
    {st : State X} {g : Standing} (inv : Inv S plan workers order z st g) where
  -- a line that runs pipe 0, in a run that has not stopped, holds the token placed last
  pub first_place : (l : ℕ) → First plan g l → st.stopped ≡ false → g.place l < length order
  first_place l f s = elim inv.feed [
    | free a b c d e ↦ absurd (c l f)
    | taken i o a b c d e w ↦
        omega (arith, first_held ok.ranged inv l f)
    | closed i o a b c d e ↦ absurd (never (sym a ∙ s))
  ]

  idle_sound : (l : ℕ) → slot_at st.slots l ≡ idle → slot_sound plan.pipes plan.lines plan.tokens workers st.slots l ≡ true
  unfolding slot_sound is_idle worker_sound
  idle_sound l e = rw e

  -- a line that holds a token of the order
  abbrev held : ℕ → Bool → ℕ → Slot
  held l r w = record {
    pipe = record { 0 = g.pipe l };
    running = r;
    token = record { 0 = token_of order st.stopped g l };
    place = record { 0 = g.place l };
    worker = record { 0 = w };
  }

  loaded_sound : (l : ℕ) (r : Bool) (w : ℕ) → l < plan.lines → if r true (ltb 0 (g.pipe l)) ≡ true → worker_sound workers (held l r w) ≡ true →
      g.place l < length order → slot_at st.slots l ≡ held l r w → slot_sound plan.pipes plan.lines plan.tokens workers st.slots l ≡ true
  unfolding slot_sound is_loaded
  loaded_sound l r w h busy manned k e =
      let f : length order ≤ plan.tokens = ok.fits in
      rw (e, manned) (elim (see (is_idle (held l r w))) [
        | holds i ↦ rw i
        | fails i ↦ rw (
          i,
          lt-ltb l plan.lines h,
          busy,
          lt-ltb (g.pipe l) plan.pipes (inv.good.at l h),
          lt-ltb (token_of order st.stopped g l) plan.tokens (ok.known (g.place l) k),
          lt-ltb (g.place l) plan.tokens (omega arith),
        )
      ])

  worker_runs : (l w : ℕ) → w < workers → worker_sound workers (held l true w) ≡ true
  unfolding worker_sound
  worker_runs l w d = lt-ltb w workers d

  worker_waits : (l : ℕ) → worker_sound workers (held l false 0) ≡ true
  unfolding worker_sound
  worker_waits l = refl

  slot_sound_lem : (l : ℕ) → slot_sound plan.pipes plan.lines plan.tokens workers st.slots l ≡ true
  slot_sound_lem l = elim (below l plan.lines) [
    | upper h t ↦ idle_sound l (inv.slotted.spare l h)
    | lower h t ↦ let u = inv.slotted.used l h in elim (same_as (g.pipe l) 0) [
      | other n t ↦ elim (see (g.busy l)) [
        | fails b ↦ loaded_sound l false 0 h (lt-ltb 0 (g.pipe l) (omega arith)) (worker_waits l) (carried ok.ranged inv l h n)
            (u.is ∙ shown_waits order st.stopped g l u.worker n b)
        | holds b ↦ loaded_sound l true u.worker h refl (worker_runs l u.worker u.manned) (carried ok.ranged inv l h n)
            (u.is ∙ shown_runs order st.stopped g l u.worker (λ s e. n e) b)
      ]
      | same e t ↦ elim (see (g.busy l)) [
        | fails b ↦ idle_sound l (u.is ∙ shown_idle order st.stopped g l u.worker e b)
        | holds b ↦ elim (see st.stopped) [
          | holds s ↦ idle_sound l (u.is ∙ shown_stopped order st.stopped g l u.worker e b s)
          | fails s ↦ loaded_sound l true u.worker h refl (worker_runs l u.worker u.manned)
              (first_place l (record { within = h; first = e; runs = b }) s)
              (u.is ∙ shown_runs order st.stopped g l u.worker (λ a f. never (sym a ∙ s)) b)
        ]
      ]
    ]
  ]

  -- the counter of a line and a pipe
  counter_most : (l p : ℕ) → p < 16 → get_or st.counters (16 * l + p) 0 ≤ most_at plan.pipes plan.lines plan.serial l p
  unfolding most_at
  counter_most l p q = elim (below l plan.lines) [
    | lower h t ↦ elim (below p plan.pipes) [
      | lower k u ↦ rw (t, u) (omega (arith, inv.tally.counts l p h k))
      | upper k u ↦ rw (t, u) (omega (arith, inv.tally.unused l p q (λ a b. omega arith)))
    ]
    | upper h t ↦ rw t (omega (arith, inv.tally.unused l p q (λ a b. omega arith)))
  ]

  counter_sound_lem : (i : ℕ) → counter_sound plan.pipes plan.lines plan.serial st.counters i ≡ true
  unfolding counter_sound
  counter_sound_lem i =
      let i-is : 16 * (i / 16) + i % 16 ≡ i = omega arith in
      le-leb (get_or st.counters i 0) (most_at plan.pipes plan.lines plan.serial (i / 16) (i % 16))
      (subst (λ j. get_or st.counters j 0 ≤ most_at plan.pipes plan.lines plan.serial (i / 16) (i % 16)) i-is (counter_most (i / 16) (i % 16) (omega arith)))

  serial_sound_lem : (p : ℕ) → serial_sound plan.pipes plan.serial p ≡ true
  unfolding serial_sound
  serial_sound_lem p = elim (below p plan.pipes) [
    | lower h t ↦ rw t (elim (see (serial_at plan p)) [ holds s ↦ rw s | fails s ↦ rw s ])
    | upper h t ↦ rw (ok.ranged.rest_clear p h)
  ]

  -- the machine is sound
  pub is_sound : sound S (whole plan workers st) ≡ true
  unfolding sound numbers_sound
  is_sound =
      rw (
        within_range 1 16 plan.pipes ok.ranged.pipes_some ok.ranged.pipes_most,
        within_range 1 32 plan.lines ok.ranged.lines_some ok.ranged.lines_most,
        le-leb plan.tokens 4096 ok.ranged.tokens_most,
        within_range 1 32 workers ok.manned.some ok.manned.most,
        le-leb st.placed plan.tokens (omega (arith, placed_most ok.ranged inv)),
        ok.ranged.first_serial,
        every_holds 16 (serial_sound plan.pipes plan.serial) (λ p h. serial_sound_lem p),
        every_holds 32 (slot_sound plan.pipes plan.lines plan.tokens workers st.slots) (λ l h. slot_sound_lem l),
        every_holds 512 (counter_sound plan.pipes plan.lines plan.serial st.counters) (λ i h. counter_sound_lem i),
        source_sound ok.ranged inv,
      )
