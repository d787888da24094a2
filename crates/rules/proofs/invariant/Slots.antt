-- The slots, read by how the run stands, and after a start, a stop and a finish.
use mathlib.Core.Path.{◌≡◌, refl, sym, ◌∙◌}
use mathlib.Core.Bool.{Bool, true, false}
use mathlib.Core.List.{List}
use Prim.Native.Nat.{ℕ, suc, ◌≤◌, ◌<◌}
use native.Mathlib.Omega.{arith}
use lib.Dec.{eqb}
use lib.ListN.{get_or}
use borrow.Author.Tests.{eq-eqb, ne_eqb}
use Rattle.vocabulary.specs.declared.Slot.{Slot}
use Rattle.vocabulary.specs.declared.Slots.{Slots}
use Rattle.rules.specs.RunState.{Pipeline, idle, runs, waits, put_slot}
use Rattle.rules.specs.Choices.{moved}
use Rattle.rules.specs.WholeRuns.{PipelineInRange}
use Rattle.rules.proofs.lists.Tests.{same, other, same_as, holds, fails, see}
use Rattle.rules.proofs.lists.SlotRows.{sized_put, put_same, put_other}
use Rattle.rules.proofs.standing.Standing.{Standing, begin, finish}
use Rattle.rules.proofs.standing.Begin.{begin_busy, begin_busy_else}
use Rattle.rules.proofs.standing.Finish.{finish_pipe, finish_busy, finish_place, finish_pipe_else, finish_busy_else, finish_place_else}
use Rattle.rules.proofs.invariant.Invariant.{shown, First, Shown, Slotted}

module _ (order : List ℕ) (stopped : Bool) (g : Standing) (l : ℕ) where
  -- the token of a line
  abbrev pub token_of : ℕ
  token_of = get_or order (g.place l) 0

  module _ (w : ℕ) where
    -- a slot, case by case
    pub shown_idle : g.pipe l ≡ 0 → g.busy l ≡ false → shown order stopped g l w ≡ idle
    unfolding shown
    shown_idle e b = rw (eq-eqb (g.pipe l) 0 e, b)

    pub shown_stopped : g.pipe l ≡ 0 → g.busy l ≡ true → stopped ≡ true → shown order stopped g l w ≡ idle
    unfolding shown
    shown_stopped e b s = rw (eq-eqb (g.pipe l) 0 e, b, s)

    pub shown_waits : (g.pipe l ≡ 0 → ⊥) → g.busy l ≡ false → shown order stopped g l w ≡ waits (g.pipe l) token_of (g.place l)
    unfolding shown
    shown_waits n b = rw (ne_eqb (g.pipe l) 0 n, b)

    pub shown_runs : (stopped ≡ true → g.pipe l ≡ 0 → ⊥) → g.busy l ≡ true → shown order stopped g l w ≡ runs (g.pipe l) token_of (g.place l) w
    unfolding shown
    shown_runs n b = elim (same_as (g.pipe l) 0) [
      | other m t ↦ rw (t, b)
      | same e t ↦ rw (t, b) (elim (see stopped) [ holds s ↦ absurd (n s e) | fails s ↦ rw (s, e) ])
    ]

    -- a slot's pipe is its line's
    pub shown_pipe : (shown order stopped g l w).pipe.0 ≡ g.pipe l
    unfolding shown
    shown_pipe = elim (same_as (g.pipe l) 0) [
      | other m t ↦ rw t (elim (see (g.busy l)) [ fails b ↦ rw b | holds b ↦ rw b ])
      | same e t ↦ rw (t, e) (elim (see (g.busy l)) [
        | fails b ↦ rw b
        | holds b ↦ rw b (elim (see stopped) [ holds s ↦ rw s | fails s ↦ rw s ])
      ])
    ]

    -- a line that is not busy does not run
    pub shown_rests : g.busy l ≡ false → (shown order stopped g l w).running ≡ false
    unfolding shown
    shown_rests b = elim (see (eqb (g.pipe l) 0)) [ holds t ↦ rw (t, b) | fails t ↦ rw (t, b) ]

    -- a slot is shown by its own line alone
    pub shown_same : (h : Standing) → h.pipe l ≡ g.pipe l → h.busy l ≡ g.busy l → h.place l ≡ g.place l → shown order stopped h l w ≡ shown order stopped g l w
    unfolding shown
    shown_same h a b c = rw (a, b, c)

-- past pipe 0 it does not matter whether the run has stopped
pub shown_past : (order : List ℕ) (a b : Bool) (g : Standing) (l w : ℕ) → (g.pipe l ≡ 0 → ⊥) → shown order a g l w ≡ shown order b g l w
unfolding shown
shown_past order a b g l w n = rw (ne_eqb (g.pipe l) 0 n)

module _ {plan : Pipeline} (ranged : PipelineInRange plan) {workers : ℕ} {order : List ℕ} {slots : Slots} {stopped : Bool} {g : Standing}
    (slotted : Slotted plan workers order slots stopped g) (l : ℕ) (i : l < plan.lines) where
  -- the slots with that of one line put anew
  one_slot : (s : Bool) (h : Standing) (v : Slot) → Shown workers order v s h l →
      ((j w : ℕ) → j < plan.lines → (j ≡ l → ⊥) → shown order stopped g j w ≡ shown order s h j w) → Slotted plan workers order (put_slot slots l v) s h
  one_slot s h v here else =
      let r : plan.lines ≤ 32 = ranged.lines_most in
      record {
        size = sized_put slots l v slotted.size;
        used = λ j a. elim (same_as j l) [
          | same e t ↦ rw (e, put_same slots l v slotted.size (omega arith)) here
          | other n t ↦
              let u = slotted.used j a in
              rw (put_other slots l v j n) (record { worker = u.worker; manned = u.manned; is = u.is ∙ else j u.worker a n })
        ];
        spare = λ j a. put_other slots l v j (omega arith) ∙ slotted.spare j a;
      }

  -- the slots after a start
  pub begin_slotted : (w : ℕ) → w < workers → g.busy l ≡ false → (stopped ≡ true → g.pipe l ≡ 0 → ⊥) →
      Slotted plan workers order (put_slot slots l (runs (g.pipe l) (token_of order stopped g l) (g.place l) w)) stopped (begin g l)
  unfolding begin
  begin_slotted w d b n = one_slot stopped (begin g l) _
      (record { worker = w; manned = d; is = sym (shown_runs order stopped (begin g l) l w n (begin_busy ranged g l b)) })
      (λ j v a m. sym (shown_same order stopped g j v (begin g l) refl (begin_busy_else ranged g l b j m) refl))

  -- the slots after a stop, which changes none
  pub stop_slotted : g.busy l ≡ false → g.pipe l ≡ 0 → ((j : ℕ) → First plan g j → ⊥) → Slotted plan workers order slots true (begin g l)
  unfolding begin
  stop_slotted b e none = record {
    size = slotted.size;
    used = λ j a.
        let u = slotted.used j a in
        record { worker = u.worker; manned = u.manned; is = u.is ∙ kept j u.worker a };
    spare = slotted.spare;
  }
    where
      kept : (j w : ℕ) → j < plan.lines → shown order stopped g j w ≡ shown order true (begin g l) j w
      kept j w a = elim (same_as j l) [
        | same f t ↦ rw f (shown_idle order stopped g l w e b ∙ sym (shown_stopped order true (begin g l) l w e (begin_busy ranged g l b) refl))
        | other n t ↦ elim (same_as (g.pipe j) 0) [
          | same f u ↦ elim (see (g.busy j)) [
            | holds d ↦ absurd (none j (record { within = a; first = f; runs = d }))
            | fails d ↦ shown_idle order stopped g j w f d ∙ sym (shown_idle order true (begin g l) j w f (begin_busy_else ranged g l b j n ∙ d))
          ]
          | other m u ↦ shown_past order stopped true g j w m ∙ sym (shown_same order true g j w (begin g l) refl (begin_busy_else ranged g l b j n) refl)
        ]
      ]

  -- the slots after a finish
  pub finish_slotted : (w : ℕ) → w < workers → g.busy l ≡ true →
      Slotted plan workers order (put_slot slots l (moved plan.pipes (runs (g.pipe l) (token_of order stopped g l) (g.place l) w))) stopped (finish plan g l)
  finish_slotted w d b = one_slot stopped (finish plan g l) _
      (record {
        worker = w;
        manned = d;
        is = elim (same_as (suc (g.pipe l)) plan.pipes) [
          | same e t ↦ rw t (sym (shown_idle order stopped (finish plan g l) l w (finish_pipe ranged g l b ∙ rw t) (finish_busy ranged g l b)))
          | other n t ↦
              let q : (finish plan g l).pipe l ≡ suc (g.pipe l) = finish_pipe ranged g l b ∙ rw t in
              let k : (finish plan g l).place l ≡ g.place l = finish_place ranged g l b ∙ rw t in
              rw t (sym (rw (q, k) at (shown_waits order stopped (finish plan g l) l w (omega arith) (finish_busy ranged g l b))))
        ];
      })
      (λ j v a m. sym (shown_same order stopped g j v (finish plan g l) (finish_pipe_else ranged g l b j m)
      (finish_busy_else ranged g l b j m) (finish_place_else ranged g l b j m)))
