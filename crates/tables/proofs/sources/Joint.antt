-- The rules' tables and the tables in memory that stand for them, together as one source: each of the two follows it.
use mathlib.Core.Path.{◌≡◌, refl, subst, ◌∙◌}
use mathlib.Core.Bool.{Bool, true, false}
use mathlib.Core.List.{List}
use Prim.Native.Nat.{ℕ}
use native.Mathlib.Omega.{arith}
use borrow.Author.Tests.{eqb-true, eq-eqb}
use lib.Dec.{eqb}
use Rattle.rules.specs.Lists.{if, has}
use Rattle.rules.specs.TakingTokens.{none, took}
use Rattle.rules.specs.TakingTokens as rules
use Rattle.rules.specs.Sources.{Source, Taken as Outcome, Spoiled, Nothing, Took, Released, Broken, Passed, Writes, close, write}
use Rattle.rules.specs.PlainSheet.{offered, plain_source}
use Rattle.rules.specs.RelatedSources.{map_taken, map_released, Follows}
use Rattle.rules.proofs.lists.Tests.{by_test}
use Rattle.tables.specs.State.{State, sound_of}
use Rattle.tables.specs.Taking.{take_of}
use Rattle.tables.specs.Releasing.{release_of}
use Rattle.tables.specs.Matching.{Match, nobody, only}
use Rattle.tables.specs.Calls.{safe_take, safe_release, memory_source}
use Rattle.tables.proofs.memory.Ranges.{range_sound}
use Rattle.tables.proofs.matching.MatchTaking.{TakenMatch, take_match}
use Rattle.tables.proofs.matching.MatchReleasing.{release_match}

-- of sound tables the public calls are taking and releasing themselves
pub safe_take_lem : (x : State) → sound_of x ≡ true → safe_take x ≡ take_of x.0 x.1
unfolding safe_take
safe_take_lem x e = rw e

pub safe_release_lem : (n : ℕ) (x : State) → sound_of x ≡ true → safe_release n x ≡ release_of x.0 n x.1
unfolding safe_release
safe_release_lem n x e = rw e

-- tables that match are sound
pub match_sound : {tokens : ℕ} {numbers : ℕ → List ℕ} {a : rules.Tables} (x : State) {out : ℕ → Bool} → Match tokens numbers a x out → sound_of x ≡ true
match_sound x p = range_sound x.0 x.1 p.range p.whole

-- matching tables: no token is at pipe 0, or one is
pub data Joint (tokens : ℕ) (numbers : ℕ → List ℕ) : Type 0 where
  resting : (a : rules.Tables) (x : State) → Match tokens numbers a x nobody → Joint tokens numbers
  holding : (n : ℕ) (a : rules.Tables) (x : State) → Match tokens numbers a x (only n) → Joint tokens numbers

-- the two sides, and what holds of them
module _ {tokens : ℕ} {numbers : ℕ → List ℕ} where
  unfoldable pub rule_side : Joint tokens numbers → rules.Tables
  rule_side (resting a x p) = a
  rule_side (holding n a x p) = a

  unfoldable pub memory_side : Joint tokens numbers → State
  memory_side (resting a x p) = x
  memory_side (holding n a x p) = x

  pub sides_match : (j : Joint tokens numbers) → (out : ℕ → Bool) × Match tokens numbers (rule_side j) (memory_side j) out
  unfolding rule_side memory_side
  sides_match (resting a x p) = (nobody, p)
  sides_match (holding n a x p) = (only n, p)

module _ (tokens : ℕ) (numbers : ℕ → List ℕ) (others : (n : ℕ) → has (numbers n) n ≡ false) where
  -- taking from both, where no token is at pipe 0
  joined : (r : rules.Taken) (o : Outcome State) → TakenMatch tokens numbers r o → Outcome (Joint tokens numbers)
  joined (none a) o p = Nothing (resting a p.0 p.2)
  joined (took n a) o p = Took n (holding n a p.0 p.2)

  pub take_joint : Joint tokens numbers → Outcome (Joint tokens numbers)
  take_joint (resting a x p) = joined (rules.take tokens numbers a) (take_of x.0 x.1) (take_match tokens numbers a x.0 x.1 p others)
  take_joint (holding n a x p) = Spoiled

  -- the finish of the token at pipe 0, on both
  pub release_joint : ℕ → Joint tokens numbers → Released (Joint tokens numbers)
  release_joint d (resting a x p) = Broken
  release_joint d (holding n a x p) =
      let q = release_match tokens numbers a x.0 x.1 n p in
      if (eqb d n) (Passed (resting (rules.release n a) q.0 q.2)) Broken

  abbrev pub joint_source : Source (Joint tokens numbers)
  joint_source = record { take = take_joint; release = release_joint; sound = λ j. true }

  -- the rules' side follows
  rule_takes : (r : rules.Taken) (o : Outcome State) (p : TakenMatch tokens numbers r o) → offered r ≡ map_taken rule_side (joined r o p)
  unfolding joined rule_side
  rule_takes (none a) o p = refl
  rule_takes (took n a) o p = refl

  pub rule_follows : Follows rule_side joint_source (plain_source tokens numbers)
  unfolding take_joint release_joint rule_side
  rule_follows = record { takes = takes; releases = releases; sounds = λ j. refl }
    where
      takes : (j : Joint tokens numbers) → (take_joint j ≡ Spoiled → ⊥) → offered (rules.take tokens numbers (rule_side j)) ≡ map_taken rule_side (take_joint j)
      takes (resting a x p) h = rule_takes (rules.take tokens numbers a) (take_of x.0 x.1) (take_match tokens numbers a x.0 x.1 p others)
      takes (holding n a x p) h = absurd (h refl)

      releases : (d : ℕ) (j : Joint tokens numbers) → (release_joint d j ≡ Broken → ⊥) →
          Passed (rules.release d (rule_side j)) ≡ map_released rule_side (release_joint d j)
      releases d (resting a x p) h = absurd (h refl)
      releases d (holding n a x p) h = by_test (eqb d n)
          (λ e. rw (e, eqb-true d n e))
          (λ e. absurd (h (rw e)))

  -- the memory's side follows
  memory_takes : (r : rules.Taken) (o : Outcome State) (p : TakenMatch tokens numbers r o) → o ≡ map_taken memory_side (joined r o p)
  unfolding joined memory_side
  memory_takes (none a) o p = p.1
  memory_takes (took n a) o p = p.1

  pub memory_follows : Follows memory_side joint_source memory_source
  unfolding take_joint release_joint memory_side
  memory_follows = record { takes = takes; releases = releases; sounds = sounds }
    where
      takes : (j : Joint tokens numbers) → (take_joint j ≡ Spoiled → ⊥) → memory_source.take (memory_side j) ≡ map_taken memory_side (take_joint j)
      takes (resting a x p) h = safe_take_lem x (match_sound x p)
          ∙ memory_takes (rules.take tokens numbers a) (take_of x.0 x.1) (take_match tokens numbers a x.0 x.1 p others)
      takes (holding n a x p) h = absurd (h refl)

      releases : (d : ℕ) (j : Joint tokens numbers) → (release_joint d j ≡ Broken → ⊥) →
          memory_source.release d (memory_side j) ≡ map_released memory_side (release_joint d j)
      releases d (resting a x p) h = absurd (h refl)
      releases d (holding n a x p) h = by_test (eqb d n)
          (λ e. rw (e, eqb-true d n e) (safe_release_lem n x (match_sound x p) ∙ (release_match tokens numbers a x.0 x.1 n p).1))
          (λ e. absurd (h (rw e)))

      sounds : (j : Joint tokens numbers) → sound_of (memory_side j) ≡ true
      sounds (resting a x p) = match_sound x p
      sounds (holding n a x p) = match_sound x p

  -- the outcome of the rules' side tells that of both
  both_none : {z : rules.Tables} (r : rules.Taken) (o : Outcome State) (p : TakenMatch tokens numbers r o) → offered r ≡ Nothing z →
      (y : State) × (q : Match tokens numbers z y nobody) × (joined r o p ≡ Nothing (resting z y q))
  unfolding joined
  both_none {z} (none a) o p e =
      let a-is : a ≡ z = cc in
      subst (λ z. (y : State) × (q : Match tokens numbers z y nobody) × (joined (none a) o p ≡ Nothing (resting z y q))) a-is (p.0, p.2, refl)
  both_none (took n a) o p e = let z : ◌≡◌ {A = ℕ} 0 1 = cc in absurd (omega arith)

  both_took : {n : ℕ} {b : rules.Tables} (r : rules.Taken) (o : Outcome State) (p : TakenMatch tokens numbers r o) → offered r ≡ Took n b →
      (y : State) × (q : Match tokens numbers b y (only n)) × (joined r o p ≡ Took n (holding n b y q))
  unfolding joined
  both_took (none a) o p e = let z : ◌≡◌ {A = ℕ} 0 1 = cc in absurd (omega arith)
  both_took {n} {b} (took k a) o p e =
      let k-is : k ≡ n = cc in
      let a-is : a ≡ b = cc in
      subst (λ n. (y : State) × (q : Match tokens numbers b y (only n)) × (joined (took k a) o p ≡ Took n (holding n b y q))) k-is
      (subst (λ b. (y : State) × (q : Match tokens numbers b y (only k)) × (joined (took k a) o p ≡ Took k (holding k b y q))) a-is (p.0, p.2, refl))

  both_release : {b c : rules.Tables} (n : ℕ) (y : State) (p : Match tokens numbers b y (only n)) → rules.release n b ≡ c →
      (x : State) × (q : Match tokens numbers c x nobody) × (release_joint n (holding n b y p) ≡ Passed (resting c x q))
  unfolding release_joint
  both_release {b} n y p e =
      let r = release_match tokens numbers b y.0 y.1 n p in
      subst (λ c. (x : State) × (q : Match tokens numbers c x nobody) × (release_joint n (holding n b y p) ≡ Passed (resting c x q))) e
      (r.0, r.2, rw (eq-eqb n n refl))

  -- what the rules' tables write down, both write down together
  pub joint_writes : {a z : rules.Tables} {ts : List ℕ} → Writes (plain_source tokens numbers) a ts z → (x : State) (p : Match tokens numbers a x nobody) →
      (y : State) × (q : Match tokens numbers z y nobody) × Writes joint_source (resting a x p) ts (resting z y q)
  unfolding take_joint
  joint_writes (close {x = a} s e s') x p =
      let (y, q, is) = both_none (rules.take tokens numbers a) (take_of x.0 x.1) (take_match tokens numbers a x.0 x.1 p others) e in
      (y, q, close refl is refl)
  joint_writes (write {x = a} {x' = c} {z = end} {t = n} s e s' r later) x p =
      let (y, q, is) = both_took (rules.take tokens numbers a) (take_of x.0 x.1) (take_match tokens numbers a x.0 x.1 p others) e in
      let (x', p', gives) = both_release {c = c} n y q (cc) in
      let (z, last, rest) = joint_writes later x' p' in
      (z, last, write {x' = resting c x' p'} {z = resting end z last} refl is refl gives rest)
