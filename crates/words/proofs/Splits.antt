-- The words of a text, by its first stop; and words with a stop in them, which are no numbers.
use mathlib.Core.Path.{◌≡◌, refl}
use mathlib.Core.Bool.{true, false}
use mathlib.Core.List.{List, [], ◌∷◌}
use Prim.Native.Nat.{ℕ}
use native.Mathlib.Omega.{arith}
use borrow.Author.Tests.{eqb-true}
use lib.Dec.{eqb, leb}
use lib.ListN.{length}
use Rattle.rules.specs.Lists.{has, within}
use Rattle.rules.proofs.lists.Tests.{by_test, if_same}
use Rattle.words.specs.Words.{up_to, past, words_in}
use Rattle.words.specs.Numbers.{digits, number_of, short_of}
use Rattle.std.specs.Prelude.{None}

module _ (stop : ℕ) where
  -- without a stop there is one word
  pub words_one : (s : List ℕ) → has s stop ≡ false → words_in stop s ≡ s ∷ []
  unfolding words_in has
  words_one [] e = refl
  words_one (b ∷ s) e =
      by_test (eqb b stop) (λ t. let z : true ≡ false = rw t at e in let y : ◌≡◌ {A = ℕ} 0 1 = cc in absurd (omega arith))
      (λ t. rw (t, words_one s (rw t at e)))

  -- and nothing behind it
  pub past_none : (s : List ℕ) → has s stop ≡ false → past stop s ≡ []
  unfolding past has
  past_none [] e = refl
  past_none (b ∷ s) e =
      by_test (eqb b stop) (λ t. let z : true ≡ false = rw t at e in let y : ◌≡◌ {A = ℕ} 0 1 = cc in absurd (omega arith))
      (λ t. rw (t, past_none s (rw t at e)))

  pub up_to_all : (s : List ℕ) → has s stop ≡ false → up_to stop s ≡ s
  unfolding up_to has
  up_to_all [] e = refl
  up_to_all (b ∷ s) e =
      by_test (eqb b stop) (λ t. let z : true ≡ false = rw t at e in let y : ◌≡◌ {A = ℕ} 0 1 = cc in absurd (omega arith))
      (λ t. rw (t, up_to_all s (rw t at e)))

  -- with one, the first word stands before it, and the others are those of what follows
  pub words_some : (s : List ℕ) → has s stop ≡ true → words_in stop s ≡ up_to stop s ∷ words_in stop (past stop s)
  unfolding words_in has up_to past
  words_some [] e = let y : ◌≡◌ {A = ℕ} 0 1 = cc in absurd (omega arith)
  words_some (b ∷ s) e = by_test (eqb b stop) (λ t. rw t) (λ t. rw (t, words_some s (rw t at e)))

  -- there is always a first word
  pub words_cons : {C : Type 0} (s : List ℕ) → ((word : List ℕ) (words : List (List ℕ)) → words_in stop s ≡ word ∷ words → C) → C
  words_cons s f =
      by_test (has s stop) (λ e. f (up_to stop s) (words_in stop (past stop s)) (words_some s e)) (λ e. f s [] (words_one s e))

  -- a stop that is no digit
  module _ (other : within 48 57 stop ≡ false) where
    digits_not : (s : List ℕ) → has s stop ≡ true → digits s ≡ false
    unfolding digits has
    digits_not [] e = let y : ◌≡◌ {A = ℕ} 0 1 = cc in absurd (omega arith)
    digits_not (b ∷ s) e =
        by_test (eqb b stop) (λ t. rw (eqb-true b stop t, other))
        (λ t. rw (digits_not s (rw t at e)) (if_same (within 48 57 b) false))

    number_not : (most : ℕ) (s : List ℕ) → has s stop ≡ true → number_of most s ≡ None
    unfolding number_of
    number_not most s e = rw (digits_not s e) (if_same (leb 1 (length s)) None)

    -- is in no number
    pub stop_in_none : (s : List ℕ) → has s stop ≡ true → short_of s ≡ None
    stop_in_none s e = number_not 65535 s e

-- an empty word is none either
pub none_in_empty : short_of [] ≡ None
unfolding number_of
none_in_empty = refl
