-- What a list has, keeps and leaves out, and lists whose numbers are all below a bound.
use mathlib.Core.Path.{◌≡◌, refl, sym, ap, fun_ext}
use mathlib.Core.Bool.{Bool, true, false, not, true≢false}
use mathlib.Core.List.{List, [], ◌∷◌, ◌++◌}
use Prim.Native.Nat.{ℕ, zero, suc, ◌+◌, ◌<◌, ◌≤◌}
use native.Mathlib.Omega.{arith}
use borrow.Author.Tests.{lt-ltb, le-leb, lt-leb, eq-eqb, ltb-true, leb-true, leb-false, eqb-true, eqb-false}
use lib.Dec.{leb, ltb, eqb}
use lib.ListN.{length, get_or}
use Rattle.rules.specs.Lists.{if, keep, any, has, empty, range, Below}
use Rattle.rules.proofs.lists.Tests.{by_test, bool_ext, if_same}

pub has_append : (l r : List ℕ) (n : ℕ) → has (l ++ r) n ≡ if (has l n) true (has r n)
unfolding has
has_append [] r n = refl
has_append (a ∷ l) r n = go (eqb a n) (has_append l r n)
  where
    go : (b : Bool) → has (l ++ r) n ≡ if (has l n) true (has r n) → if b true (has (l ++ r) n) ≡ if (if b true (has l n)) true (has r n)
    go true e = refl
    go false e = e

pub has_range : (i k n : ℕ) → has (range i k) n ≡ if (leb i n) (ltb n (i + k)) false
unfolding has range
has_range i zero n = bool_ext _ _ (λ e. absurd (true≢false (sym e))) (λ e. absurd (end e))
  where
    end : if (leb i n) (ltb n (i + 0)) false ≡ true → ⊥
    end e = by_test (leb i n) (λ h. let l : n < i + 0 = ltb-true n (i + 0) (rw h at e) in omega (arith, leb-true i n h)) (λ h. true≢false (sym (rw h at e)))
has_range i (suc k) n = rw (has_range (suc i) k n) (go (eqb i n) refl)
  where
    go : (b : Bool) → eqb i n ≡ b → if b true (if (leb (suc i) n) (ltb n (suc i + k)) false) ≡ if (leb i n) (ltb n (i + suc k)) false
    go true e = let h : i ≡ n = eqb-true i n e in rw (le-leb i n (omega arith), lt-ltb n (i + suc k) (omega arith))
    go false e =
        let h : i ≡ n → ⊥ = eqb-false i n e in
        let s : suc i + k ≡ i + suc k = omega arith in
        by_test (leb (suc i) n)
        (λ l. rw (l, le-leb i n (omega (arith, leb-true (suc i) n l)), s))
        (λ l. let m : leb i n ≡ false = lt-leb i n (omega (arith, h, leb-false (suc i) n l)) in rw (l, m))

-- a test on what another test kept is one test
pub keep_keep : {A : Type 0} (p q : A → Bool) (l : List A) → keep p (keep q l) ≡ keep (λ a. if (q a) (p a) false) l
unfolding keep
keep_keep p q [] = refl
keep_keep p q (a ∷ l) = go (q a) (keep_keep p q l)
  where
    go : (x : Bool) → keep p (keep q l) ≡ keep (λ a. if (q a) (p a) false) l
        → keep p (if x (a ∷ keep q l) (keep q l)) ≡ if (if x (p a) false) (a ∷ keep (λ a. if (q a) (p a) false) l) (keep (λ a. if (q a) (p a) false) l)
    go true e = ap (λ r. if (p a) (a ∷ r) r) e
    go false e = e

-- a list keeps nothing exactly if no element passes
pub empty_keep : {A : Type 0} (p : A → Bool) (l : List A) → empty (keep p l) ≡ not (any p l)
unfolding keep empty any
empty_keep p [] = refl
empty_keep p (a ∷ l) = go (p a) (empty_keep p l)
  where
    go : (b : Bool) → empty (keep p l) ≡ not (any p l) → empty (if b (a ∷ keep p l) (keep p l)) ≡ not (if b true (any p l))
    go true e = refl
    go false e = e

-- tests that agree keep the same
pub keep_cong : {A : Type 0} {p q : A → Bool} → ((a : A) → p a ≡ q a) → (l : List A) → keep p l ≡ keep q l
keep_cong h l = ap (λ t. keep t l) (fun_ext h)

pub below_append : (n : ℕ) (l r : List ℕ) → Below n l → Below n r → Below n (l ++ r)
below_append n [] r hl hr = hr
below_append n (a ∷ l) r hl hr = (hl.0, below_append n l r hl.1 hr)

pub below_range : (n i k : ℕ) → i + k ≤ n → Below n (range i k)
unfolding range
below_range n i zero h = tt
below_range n i (suc k) h = (omega arith, below_range n (suc i) k (omega arith))

pub below_has : (n : ℕ) (l : List ℕ) (t : ℕ) → Below n l → has l t ≡ true → t < n
unfolding has
below_has n [] t h e = absurd (true≢false (sym e))
below_has n (a ∷ l) t h e = go (eqb a t) refl (below_has n l t h.1) e
  where
    go : (b : Bool) → eqb a t ≡ b → (has l t ≡ true → t < n) → if b true (has l t) ≡ true → t < n
    go true x later e = let y : a ≡ t = eqb-true a t x in omega (arith, h.0)
    go false x later e = later e

pub below_mono : {n k : ℕ} (l : List ℕ) → n ≤ k → Below n l → Below k l
below_mono [] h b = tt
below_mono (a ∷ l) h b = (omega (arith, b.0), below_mono l h b.1)

pub below_keep : (n : ℕ) (p : ℕ → Bool) (l : List ℕ) → Below n l → Below n (keep p l)
unfolding keep
below_keep n p [] b = tt
below_keep n p (a ∷ l) b = go (p a) (below_keep n p l b.1)
  where
    go : (x : Bool) → Below n (keep p l) → Below n (if x (a ∷ keep p l) (keep p l))
    go true h = (b.0, h)
    go false h = h

-- a test that fails on each element of a list holds of none
pub any_none : (p : ℕ → Bool) (l : List ℕ) → ((n : ℕ) → has l n ≡ true → p n ≡ false) → any p l ≡ false
unfolding any has
any_none p [] h = refl
any_none p (a ∷ l) h = rw (h a (rw (eq-eqb a a refl))) (any_none p l (λ n e. h n (rw e (if_same (eqb a n) true))))

-- tests that agree on each element of a list keep the same of it
pub keep_same : (p q : ℕ → Bool) (l : List ℕ) → ((n : ℕ) → has l n ≡ true → p n ≡ q n) → keep p l ≡ keep q l
unfolding keep has
keep_same p q [] h = refl
keep_same p q (a ∷ l) h = rw (h a (rw (eq-eqb a a refl)), keep_same p q l (λ n e. h n (rw e (if_same (eqb a n) true))))

pub length_range : (i k : ℕ) → length (range i k) ≡ k
unfolding range
length_range i zero = refl
length_range i (suc k) = ap suc (length_range (suc i) k)

-- at most all elements pass
pub keep_most : {A : Type 0} (p : A → Bool) (l : List A) → length (keep p l) ≤ length l
unfolding keep
keep_most p [] = omega arith
keep_most p (a ∷ l) = by_test (p a) (λ e. rw e (omega (arith, keep_most p l))) (λ e. rw e (omega (arith, keep_most p l)))

-- what is kept passes the test
pub kept_passes : (p : ℕ → Bool) (l : List ℕ) (i : ℕ) → i < length (keep p l) → p (get_or (keep p l) i 0) ≡ true
unfolding keep
kept_passes p [] i h = absurd (omega arith)
kept_passes p (a ∷ l) zero h = by_test (p a) (λ e. rw e e) (λ e. let k = rw e at h in rw e (kept_passes p l zero k))
kept_passes p (a ∷ l) (suc i) h =
    by_test (p a) (λ e. let k = rw e at h in rw e (kept_passes p l i (omega (arith, k)))) (λ e. let k = rw e at h in rw e (kept_passes p l (suc i) k))

-- a list is empty exactly if its length is 0
pub empty_none : {A : Type 0} (l : List A) → empty l ≡ true → length l ≡ 0
unfolding empty
empty_none [] e = refl
empty_none (a ∷ l) e = absurd (true≢false (sym e))

pub empty_some : {A : Type 0} (l : List A) → empty l ≡ false → 0 < length l
unfolding empty
empty_some [] e = absurd (true≢false e)
empty_some (a ∷ l) e = omega arith

-- a list that has a number is not empty
pub has_not_empty : (l : List ℕ) (n : ℕ) → has l n ≡ true → empty l ≡ false
unfolding empty has
has_not_empty [] n e = absurd (true≢false (sym e))
has_not_empty (a ∷ l) n e = refl
