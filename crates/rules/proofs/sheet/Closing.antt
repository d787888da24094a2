-- From sound tables the plain sheet closes, and what holds then.
use mathlib.Core.Path.{◌≡◌, refl, ap}
use mathlib.Core.Bool.{false}
use mathlib.Core.List.{List, [], ◌∷◌, ◌++◌, append-nil, append_assoc}
use mathlib.Core.Logic.{by_cases}
use Prim.Native.Nat.{ℕ, zero, suc, ◌+◌, ◌≤◌}
use native.Mathlib.Omega.{arith}
use native.Mathlib.Decide.{dec_le}
use lib.ListN.{length, length-append}
use Rattle.rules.specs.Lists.{has}
use Rattle.rules.specs.TakingTokens.{Tables, Taken, none, took, take, release}
use Rattle.rules.specs.Sources.{Writes, close, write}
use Rattle.rules.specs.PlainSheet.{written, leaves, offered, plain_source}
use Rattle.rules.proofs.lists.Pigeonhole.{pigeonhole}
use Rattle.rules.proofs.sheet.Taking.{AllIn, Sound, Taking, take_sound, release_sound}

-- each token of a list comes after all that it lists, with `done` before the list
abbrev pub InOrder : (ℕ → List ℕ) → List ℕ → List ℕ → Type 0
InOrder numbers done [] = Unit {0}
InOrder numbers done (n ∷ l) = AllIn numbers done n × InOrder numbers (done ++ (n ∷ [])) l

-- by what taking gives
by_taken : {C : Type 0} (k : Taken) → ((z : Tables) → k ≡ none z → C) → ((n : ℕ) (u : Tables) → k ≡ took n u → C) → C
by_taken (none z) f g = f z refl
by_taken (took n u) f g = g n u refl

module _ (tokens : ℕ) (numbers : ℕ → List ℕ) where
  -- from tables t, with `done` finished, these tokens are written down, and the sheet closes at z
  pub record Closes (done : List ℕ) (t : Tables) (l : List ℕ) (z : Tables) : Type 0 where
    pub writes : Writes (plain_source tokens numbers) t l z
    pub ordered : InOrder numbers done l
    pub sound : Sound tokens numbers (done ++ l) (done ++ l) z
    pub none_new : z.count ≡ tokens
    pub none_ready : z.ready ≡ []

  -- no more tokens are ordered than there are: each is below N, and comes once
  pub placed_few : {placed done : List ℕ} {t : Tables} → Sound tokens numbers placed done t → length placed ≤ tokens
  placed_few {placed} s = by_cases (dec_le (length placed) tokens) (λ few. few) (λ many.
      let (n, twice) = pigeonhole tokens placed (λ n h. omega (arith, s.counted n, s.within)) (omega arith) in
      absurd (omega (arith, s.counted n)))

  -- with each step one more token is ordered, so that N + 1 steps are enough
  pub closes_from : ((n : ℕ) → has (numbers n) n ≡ false) → (steps : ℕ) (done : List ℕ) (t : Tables) →
      Sound tokens numbers done done t → steps + length done ≡ suc tokens →
      Closes done t (written tokens numbers steps t) (leaves tokens numbers steps t)
  unfolding written leaves
  closes_from others zero done t s fuel = absurd (omega (arith, placed_few s))
  closes_from others (suc steps) done t s fuel = by_taken (take tokens numbers t)
      (λ z e.
      let h : Taking tokens numbers done (none z) = rw e at (take_sound tokens numbers others t s) in
      rw (e, written, leaves) (record {
        writes = close refl (ap offered e) refl;
        ordered = tt;
        sound = rw append-nil h.0;
        none_new = h.1;
        none_ready = h.2;
      }))
      (λ n u e.
      let h : Taking tokens numbers done (took n u) = rw e at (take_sound tokens numbers others t s) in
      let c =
      closes_from others steps (done ++ (n ∷ [])) (release n u) (release_sound tokens numbers n u h.0)
      (omega (arith, length-append done (n ∷ []))) in
      rw (e, written, leaves) (record {
        writes = write refl (ap offered e) refl refl c.writes;
        ordered = (h.1, c.ordered);
        sound = rw append_assoc at c.sound;
        none_new = c.none_new;
        none_ready = c.none_ready;
      }))
