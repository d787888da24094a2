-- The rows of all slots: a line's slot put anew, and read.
use mathlib.Core.Path.{◌≡◌, ap, sym, ◌∙◌}
use Prim.Native.Nat.{ℕ, ◌<◌}
use native.Mathlib.Omega.{arith}
use lib.ListN.{length, get_or, replicate, length-set, length-replicate, get_or-replicate, get_or-eq_default}
use lib.Seq.{get_or-set_same, get_or-set_other, set-get_or, set_comm, ext_get_or}
use Rattle.vocabulary.specs.declared.Slot.{Slot}
use Rattle.vocabulary.specs.declared.Slots.{Slots}
use Rattle.rules.specs.RunState.{idle, slot_at, put_slot, all_idle}
use Rattle.rules.proofs.lists.Tests.{lower, upper, below}

-- a row for each of 32 lines
pub record Sized (s : Slots) : Type 0 where
  pub at : length s.at ≡ 32
  pub running : length s.running ≡ 32
  pub token : length s.token ≡ 32
  pub place : length s.place ≡ 32
  pub worker : length s.worker ≡ 32

-- two slots are one if their parts are
slot_by : {s t : Slot} → s.pipe ≡ t.pipe → s.running ≡ t.running → s.token ≡ t.token → s.place ≡ t.place → s.worker ≡ t.worker → s ≡ t
slot_by a b c d e = λ i. record { pipe = a i; running = b i; token = c i; place = d i; worker = e i }

slots_by : {s t : Slots} → s.at ≡ t.at → s.running ≡ t.running → s.token ≡ t.token → s.place ≡ t.place → s.worker ≡ t.worker → s ≡ t
slots_by a b c d e = λ i. record { at = a i; running = b i; token = c i; place = d i; worker = e i }

module _ (s : Slots) (l : ℕ) (v : Slot) where
  pub sized_put : Sized s → Sized (put_slot s l v)
  unfolding put_slot
  sized_put z = record {
    at = length-set s.at l v.pipe ∙ z.at;
    running = length-set s.running l v.running ∙ z.running;
    token = length-set s.token l v.token ∙ z.token;
    place = length-set s.place l v.place ∙ z.place;
    worker = length-set s.worker l v.worker ∙ z.worker;
  }

  -- the slot that was put, and any other
  pub put_same : Sized s → l < 32 → slot_at (put_slot s l v) l ≡ v
  unfolding slot_at put_slot
  put_same z h = slot_by
      (get_or-set_same s.at l v.pipe idle.pipe (omega (arith, z.at)))
      (get_or-set_same s.running l v.running idle.running (omega (arith, z.running)))
      (get_or-set_same s.token l v.token idle.token (omega (arith, z.token)))
      (get_or-set_same s.place l v.place idle.place (omega (arith, z.place)))
      (get_or-set_same s.worker l v.worker idle.worker (omega (arith, z.worker)))

  pub put_other : (j : ℕ) → (j ≡ l → ⊥) → slot_at (put_slot s l v) j ≡ slot_at s j
  unfolding slot_at put_slot
  put_other j n = slot_by
      (get_or-set_other s.at l j v.pipe idle.pipe n)
      (get_or-set_other s.running l j v.running idle.running n)
      (get_or-set_other s.token l j v.token idle.token n)
      (get_or-set_other s.place l j v.place idle.place n)
      (get_or-set_other s.worker l j v.worker idle.worker n)

-- a line's own slot, put again
pub put_own : (s : Slots) (l : ℕ) → put_slot s l (slot_at s l) ≡ s
unfolding slot_at put_slot
put_own s l = slots_by
    (set-get_or s.at l idle.pipe)
    (set-get_or s.running l idle.running)
    (set-get_or s.token l idle.token)
    (set-get_or s.place l idle.place)
    (set-get_or s.worker l idle.worker)

-- two lines' slots, put in either order
pub put_swap : (s : Slots) (a b : ℕ) (u v : Slot) → (a ≡ b → ⊥) → put_slot (put_slot s a u) b v ≡ put_slot (put_slot s b v) a u
unfolding put_slot
put_swap s a b u v n = slots_by
    (set_comm s.at a b u.pipe v.pipe n)
    (set_comm s.running a b u.running v.running n)
    (set_comm s.token a b u.token v.token n)
    (set_comm s.place a b u.place v.place n)
    (set_comm s.worker a b u.worker v.worker n)

-- a row of one value has it everywhere
one_value : {A : Type 0} (n : ℕ) (a : A) (i : ℕ) → get_or (replicate n a) i a ≡ a
one_value n a i = elim (below i n) [
  | lower h t ↦ get_or-replicate n i a a h
  | upper h t ↦ get_or-eq_default (replicate n a) a (rw (length-replicate n a) h)
]

-- all lines idle
pub sized_idle : Sized all_idle
unfolding all_idle
sized_idle = record {
  at = length-replicate 32 idle.pipe;
  running = length-replicate 32 idle.running;
  token = length-replicate 32 idle.token;
  place = length-replicate 32 idle.place;
  worker = length-replicate 32 idle.worker;
}

pub each_idle : (l : ℕ) → slot_at all_idle l ≡ idle
unfolding slot_at all_idle
each_idle l = slot_by (one_value 32 idle.pipe l) (one_value 32 idle.running l) (one_value 32 idle.token l)
    (one_value 32 idle.place l) (one_value 32 idle.worker l)

-- the same slots, line by line
pub same_slots : {s t : Slots} → Sized s → Sized t → ((l : ℕ) → slot_at s l ≡ slot_at t l) → s ≡ t
unfolding slot_at
same_slots {s} {t} z y each = slots_by
    (ext_get_or idle.pipe s.at t.at (z.at ∙ sym y.at) (λ l h. ap (λ x. x.pipe) (each l)))
    (ext_get_or idle.running s.running t.running (z.running ∙ sym y.running) (λ l h. ap (λ x. x.running) (each l)))
    (ext_get_or idle.token s.token t.token (z.token ∙ sym y.token) (λ l h. ap (λ x. x.token) (each l)))
    (ext_get_or idle.place s.place t.place (z.place ∙ sym y.place) (λ l h. ap (λ x. x.place) (each l)))
    (ext_get_or idle.worker s.worker t.worker (z.worker ∙ sym y.worker) (λ l h. ap (λ x. x.worker) (each l)))
