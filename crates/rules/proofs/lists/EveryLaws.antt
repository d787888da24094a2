-- A property of every element of a list.
use mathlib.Core.Path.{◌≡◌, sym}
use mathlib.Core.Bool.{Bool, true, true≢false}
use mathlib.Core.List.{List, [], ◌∷◌, ◌++◌, map, head-eq_of_cons-eq, tail-eq_of_cons-eq}
use Prim.Native.Nat.{ℕ}
use lib.Dec.{eqb}
use borrow.Author.Tests.{eqb-true}
use Rattle.rules.specs.Lists.{Every, keep, has}
use Rattle.rules.proofs.lists.Tests.{by_test}

-- a property of each image
pub every_map : {A B : Type 0} (P : A → Type 0) (Q : B → Type 0) (f : A → B) → ((a : A) → P a → Q (f a)) →
    (l : List A) → Every P l → Every Q (map f l)
every_map P Q f g [] h = tt
every_map P Q f g (a ∷ l) h = (g a h.0, every_map P Q f g l h.1)

-- lists of images that agree, agree at every element
pub every_agree : {A B : Type 0} (f g : A → B) (l : List A) → map f l ≡ map g l → Every (λ a. f a ≡ g a) l
every_agree f g [] e = tt
every_agree f g (a ∷ l) e = (head-eq_of_cons-eq e, every_agree f g l (tail-eq_of_cons-eq e))

module _ {A : Type 0} (P : A → Type 0) where
  pub every_weaken : (Q : A → Type 0) → ((a : A) → P a → Q a) → (l : List A) → Every P l → Every Q l
  every_weaken Q f [] h = tt
  every_weaken Q f (a ∷ l) h = (f a h.0, every_weaken Q f l h.1)

  pub every_append : (k l : List A) → Every P k → Every P l → Every P (k ++ l)
  every_append [] l hk hl = hl
  every_append (a ∷ k) l hk hl = (hk.0, every_append k l hk.1 hl)

  -- what is kept has passed the test besides
  pub every_keep : (p : A → Bool) (l : List A) → Every P l → Every (λ a. P a × (p a ≡ true)) (keep p l)
  unfolding keep
  every_keep p [] h = tt
  every_keep p (a ∷ l) h = by_test (p a)
      (λ e. rw e ((h.0, e), every_keep p l h.1))
      (λ e. rw e (every_keep p l h.1))

  -- the element behind one of the elements' numbers
  pub every_find : (f : A → ℕ) (n : ℕ) (l : List A) → Every P l → has (map f l) n ≡ true → (a : A) × P a × (f a ≡ n)
  unfolding has
  every_find f n [] h m = absurd (true≢false (sym m))
  every_find f n (a ∷ l) h m = by_test (eqb (f a) n)
      (λ e. (a, h.0, eqb-true (f a) n e))
      (λ e. every_find f n l h.1 (rw e at m))
