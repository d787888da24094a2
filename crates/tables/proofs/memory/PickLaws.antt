-- What is picked from a list by a list in step with it, and the watches after a finish: their lengths, and numbers below a bound.
use mathlib.Core.Path.{◌≡◌, refl, sym, ap, ◌∙◌}
use mathlib.Core.Bool.{Bool, true, false, not, true≢false}
use mathlib.Core.List.{List, [], ◌∷◌}
use Prim.Native.Nat.{ℕ, zero, suc, ◌+◌, ◌<◌}
use native.Mathlib.Omega.{arith}
use lib.Dec.{eqb}
use borrow.Author.Tests.{ne_eqb}
use lib.ListN.{length, get_or}
use Rattle.std.specs.Prelude.{Some, None, Ok, Err}
use Rattle.rules.specs.Lists.{if, any, keep, Below}
use Rattle.rules.proofs.lists.Tests.{by_test}
use Rattle.tables.specs.Facts.{Hold, by_hold}
use Rattle.tables.specs.Releasing.{is_free, is_held, is_unsound, pick, new_watch, new_watches}

module _ (p : ℕ → Bool) where
  -- what is picked from numbers below a bound is below it
  pub below_pick : (n : ℕ) (xs ws : List ℕ) → Below n xs → Below n (pick p xs ws)
  unfolding pick
  below_pick n [] ws b = tt
  below_pick n (x ∷ xs) [] b = tt
  below_pick n (x ∷ xs) (w ∷ ws) b = by_test (p w) (λ e. rw e (b.0, below_pick n xs ws b.1)) (λ e. rw e (below_pick n xs ws b.1))

  -- as many are picked from each of two lists of one length
  pub pick_same : (xs ys ws : List ℕ) → length xs ≡ length ys → length (pick p xs ws) ≡ length (pick p ys ws)
  unfolding pick
  pick_same [] [] ws e = refl
  pick_same [] (y ∷ ys) ws e = absurd (omega arith)
  pick_same (x ∷ xs) [] ws e = absurd (omega arith)
  pick_same (x ∷ xs) (y ∷ ys) [] e = refl
  pick_same (x ∷ xs) (y ∷ ys) (w ∷ ws) e = by_test (p w)
      (λ t. rw t (omega (arith, pick_same xs ys ws (omega arith))))
      (λ t. rw t (pick_same xs ys ws (omega arith)))

  -- those picked and the others are all
  pub pick_all : (xs ws : List ℕ) → length ws ≡ length xs → length (pick p xs ws) + length (pick (λ w. not (p w)) xs ws) ≡ length xs
  unfolding pick
  pick_all [] ws e = refl
  pick_all (x ∷ xs) [] e = absurd (omega arith)
  pick_all (x ∷ xs) (w ∷ ws) e = by_test (p w)
      (λ t. rw t (omega (arith, pick_all xs ws (omega arith))))
      (λ t. rw t (omega (arith, pick_all xs ws (omega arith))))

-- where none is picked, the others are all
pub pick_none : (p : ℕ → Bool) (xs ws : List ℕ) → length ws ≡ length xs → length (pick p xs ws) ≡ 0 → (pick p xs ws ≡ []) × (pick (λ w. not (p w)) xs ws ≡ xs)
unfolding pick
pick_none p [] ws e h = (refl, refl)
pick_none p (x ∷ xs) [] e h = absurd (omega arith)
pick_none p (x ∷ xs) (w ∷ ws) e h = by_test (p w)
    (λ t. absurd (omega (arith, rw t at h)))
    (λ t. let r = pick_none p xs ws (omega arith) (rw t at h) in rw t (r.0, ap (λ l. x ∷ l) r.1))

-- as many watches as before
pub length_new : (hold : ℕ → Hold) (d : ℕ) (ts ws : List ℕ) → length ws ≡ length ts → length (new_watches hold d ts ws) ≡ length ts
unfolding new_watches
length_new hold d [] ws e = refl
length_new hold d (t ∷ ts) [] e = absurd (omega arith)
length_new hold d (t ∷ ts) (w ∷ ws) e = omega (arith, length_new hold d ts ws (omega arith))

module _ (hold : ℕ → Hold) (d : ℕ) where
  -- where no other number holds a token that watches this one, all are as before
  pub new_unheld : (ts ws : List ℕ) → length ws ≡ length ts → length (keep (λ t. is_held (hold t)) (pick (λ w. eqb w d) ts ws)) ≡ 0 → new_watches hold d ts ws ≡ ws
  unfolding new_watches new_watch pick keep
  new_unheld [] [] e h = refl
  new_unheld [] (w ∷ ws) e h = absurd (omega arith)
  new_unheld (t ∷ ts) [] e h = absurd (omega arith)
  new_unheld (t ∷ ts) (w ∷ ws) e h = by_test (eqb w d)
      (λ q. by_test (is_held (hold t))
      (λ held. absurd (omega (arith, rw (q, held) at h)))
      (λ unheld. rw (q, stays (hold t) unheld) (ap (λ l. w ∷ l) (new_unheld ts ws (omega arith) (rw (q, unheld) at h)))))
      (λ q. rw q (ap (λ l. w ∷ l) (new_unheld ts ws (omega arith) (rw q at h))))
    where
      stays : (x : Hold) → is_held x ≡ false → by_hold x w w (λ n. n) ≡ w
      stays (Err x) h = refl
      stays (Ok None) h = refl
      stays (Ok (Some n)) h = absurd (true≢false h)

  -- a watch by what holds its token
  new_other : (t w : ℕ) → eqb w d ≡ false → new_watch hold d t w ≡ w
  unfolding new_watch
  new_other t w q = rw q

  -- one that is another number stays so
  pub new_apart : (ts ws : List ℕ) (i : ℕ) → length ws ≡ length ts → i < length ws → (get_or ws i 0 ≡ d → ⊥) → get_or (new_watches hold d ts ws) i 0 ≡ d → ⊥
  unfolding new_watches
  new_apart [] ws i e h other same = omega arith
  new_apart (t ∷ ts) [] i e h other same = omega arith
  new_apart (t ∷ ts) (w ∷ ws) zero e h other same = other (sym (new_other t w (ne_eqb w d other)) ∙ same)
  new_apart (t ∷ ts) (w ∷ ws) (suc i) e h other same = new_apart ts ws i (omega arith) (omega arith) other same

  new_free : (t w : ℕ) → eqb w d ≡ true → is_free (hold t) ≡ true → eqb (new_watch hold d t w) d ≡ true
  unfolding new_watch
  new_free t w e = go (hold t)
    where
      go : (x : Hold) → is_free x ≡ true → eqb (if (eqb w d) (by_hold x w w (λ n. n)) w) d ≡ true
      go (Err x) h = absurd (true≢false (sym h))
      go (Ok None) h = rw e e
      go (Ok (Some n)) h = absurd (true≢false (sym h))

  module _ (other : (t n : ℕ) → hold t ≡ Ok (Some n) → eqb n d ≡ false) where
    new_by : (t w : ℕ) → is_unsound (hold t) ≡ false → is_free (hold t) ≡ false → eqb w d ≡ true → eqb (new_watch hold d t w) d ≡ false
    unfolding new_watch
    new_by t w = go (hold t) refl
      where
        go : (x : Hold) → hold t ≡ x → is_unsound x ≡ false → is_free x ≡ false → eqb w d ≡ true → eqb (if (eqb w d) (by_hold x w w (λ n. n)) w) d ≡ false
        go (Err x) e u h q = absurd (true≢false u)
        go (Ok None) e u h q = absurd (true≢false h)
        go (Ok (Some n)) e u h q = rw q (other t n e)

    -- of the tokens that watch this number, those that no other holds watch it still, where no record is bad
    pub still_watching : (ts ws : List ℕ) → any (λ t. is_unsound (hold t)) (pick (λ w. eqb w d) ts ws) ≡ false
        → keep (λ t. is_free (hold t)) (pick (λ w. eqb w d) ts ws) ≡ pick (λ w. eqb w d) ts (new_watches hold d ts ws)
    unfolding new_watches pick any keep
    still_watching [] ws u = refl
    still_watching (t ∷ ts) [] u = refl
    still_watching (t ∷ ts) (w ∷ ws) u = by_test (eqb w d)
        (λ q. watching q (rw q at u) (still_watching ts ws))
        (λ q. let same : new_watch hold d t w ≡ w = new_other t w q in rw (q, same, q) (still_watching ts ws (rw q at u)))
      where
        watching : eqb w d ≡ true → if (is_unsound (hold t)) true (any (λ t. is_unsound (hold t)) (pick (λ w. eqb w d) ts ws)) ≡ false
            → (any (λ t. is_unsound (hold t)) (pick (λ w. eqb w d) ts ws) ≡ false
            → keep (λ t. is_free (hold t)) (pick (λ w. eqb w d) ts ws) ≡ pick (λ w. eqb w d) ts (new_watches hold d ts ws))
            → keep (λ t. is_free (hold t)) (pick (λ w. eqb w d) (t ∷ ts) (w ∷ ws)) ≡ pick (λ w. eqb w d) (t ∷ ts) (new_watches hold d (t ∷ ts) (w ∷ ws))
        watching q u next =
            let good : is_unsound (hold t) ≡ false = by_test (is_unsound (hold t)) (λ b. absurd (true≢false (rw b at u))) (λ b. b) in
            let later = next (rw good at u) in
            by_test (is_free (hold t))
            (λ h. rw (q, h, new_free t w q h) (ap (λ l. t ∷ l) later))
            (λ h. rw (q, h, new_by t w good h q) later)

  -- and each of them is as every token with a good record
  pub watching_below : (n : ℕ) → ((t : ℕ) → is_unsound (hold t) ≡ false → t < n) → (ts ws : List ℕ)
      → any (λ t. is_unsound (hold t)) (pick (λ w. eqb w d) ts ws) ≡ false → Below n (pick (λ w. eqb w d) ts ws)
  unfolding pick any
  watching_below n low [] ws u = tt
  watching_below n low (t ∷ ts) [] u = tt
  watching_below n low (t ∷ ts) (w ∷ ws) u = by_test (eqb w d)
      (λ q. rw q (by_test (is_unsound (hold t))
      (λ b. absurd (true≢false (rw (q, b) at u)))
      (λ b. (low t b, watching_below n low ts ws (rw (q, b) at u)))))
      (λ q. rw q (watching_below n low ts ws (rw q at u)))
