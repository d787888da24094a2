-- Loading, case by case, as the code meets them.
use Rattle.std.specs.Prelude.{Ok, Err}
use mathlib.Core.Path.{◌≡◌, refl, sym, ap, ◌∙◌}
use mathlib.Core.List.{List}
use Prim.Native.Nat.{ℕ, ◌≤◌, ◌<◌}
use native.Mathlib.Omega.{arith}
use borrow.Author.Tests.{le-leb, lt-leb, leb-true}
use lib.Dec.{leb}
use lib.ListN.{length, take}
use Rattle.rules.specs.Lists.{within}
use Rattle.vocabulary.specs.declared.refusal.Refusal.{Refusal}
use Rattle.rules.proofs.lists.Tests.{by_test}
use Rattle.rules.specs.WholeRuns.{WorkersInRange}
use Rattle.plan.specs.Plan.{Plan, Record}
use Rattle.plan.specs.Records.{records_in}
use Rattle.plan.specs.Reading.{Outcome, accepted, refused, read_of, reading_of}
use Rattle.plan.specs.declared.trailer.Header.{Header}
use Rattle.loading.specs.Layout.{laid_out}
use Rattle.loading.specs.Loading.{load_as, load_of}
use Rattle.loading.proofs.loading.PlanRead.{PlanRead, accepted_read, refused_read}

-- with 8 and 9 passed the answer is what was read
as_read : (o : Outcome) (workers : ℕ) (m : List ℕ) → 1 ≤ workers → workers ≤ 32 → 32768 ≤ length m → (load_as o workers m).0 ≡ o
unfolding load_as within
as_read (refused why) workers m some most enough = refl
as_read (accepted p) workers m some most enough = rw (le-leb 1 workers some, le-leb workers 32 most, le-leb 32768 (length m) enough)

-- what is answered of a file that was read
module _ (file : List ℕ) (workers : ℕ) (m : List ℕ) where
  -- 1 to 7
  pub plan_refused : {why : Refusal} → Err why ≡ reading_of (read_of file) → Err why ≡ reading_of (load_of file workers m).0
  unfolding load_as
  plan_refused {why} e = rw (refused_read (read_of file) why (sym e))

  module _ {h : Header} (e : Ok h ≡ reading_of (read_of file)) where
    -- 8
    pub workers_refused : (1 ≤ workers → workers ≤ 32 → ⊥) → Err Refusal.Workers ≡ reading_of (load_of file workers m).0
    unfolding load_as within
    workers_refused beyond = rw (accepted_read (read_of file) h (sym e)).1
        (by_test (leb 1 workers)
        (λ some. by_test (leb workers 32) (λ most. absurd (beyond (leb-true 1 workers some) (leb-true workers 32 most))) (λ many. rw (some, many)))
        (λ none. rw none))

    module _ (some : 1 ≤ workers) (most : workers ≤ 32) where
      -- 9
      pub little_memory : length m < 32768 → Err Refusal.Memory ≡ reading_of (load_of file workers m).0
      unfolding load_as within
      little_memory little =
          rw ((accepted_read (read_of file) h (sym e)).1, le-leb 1 workers some, le-leb workers 32 most, lt-leb 32768 (length m) little)

      -- else the plan
      pub accepts : 32768 ≤ length m → Ok h ≡ reading_of (load_of file workers m).0
      accepts enough = e ∙ ap reading_of (sym (as_read (read_of file) workers m some most enough))

-- what loading gives: a refusal, with the memory as it was, or the plan laid out
pub data Loading (o : Outcome) (workers : ℕ) (m : List ℕ) : Type 0 where
  turned_down : (why : Refusal) → load_as o workers m ≡ (refused why, m) → Loading o workers m
  laid : (p : Plan) → o ≡ accepted p → WorkersInRange workers → 32768 ≤ length m →
      load_as o workers m ≡ (accepted p, laid_out p.records m) → Loading o workers m

pub loading : (o : Outcome) (workers : ℕ) (m : List ℕ) → Loading o workers m
unfolding load_as within
loading (refused why) workers m = turned_down why refl
loading (accepted p) workers m =
    by_test (leb 1 workers)
    (λ some. by_test (leb workers 32)
    (λ most. by_test (leb 32768 (length m))
    (λ enough. laid p refl (record { some = leb-true 1 workers some; most = leb-true workers 32 most }) (leb-true 32768 (length m) enough)
    (rw (some, most, enough)))
    (λ little. turned_down Refusal.Memory (rw (some, most, little))))
    (λ many. turned_down Refusal.Workers (rw (some, many))))
    (λ none. turned_down Refusal.Workers (rw none))

-- a plan that is loaded was read
pub loaded_read : (o : Outcome) (workers : ℕ) (m : List ℕ) (h : Header) → reading_of (load_as o workers m).0 ≡ Ok h → (load_as o workers m).0 ≡ o
loaded_read o workers m h e = elim (loading o workers m) [
  | turned_down why is ↦ let q = rw is at e in let z : ◌≡◌ {A = ℕ} 0 1 = cc in absurd (omega arith)
  | laid p o_is manned enough is ↦ ap (λ x. x.0) is ∙ sym o_is
]

-- what is left in memory where this is answered
module _ (file : List ℕ) (workers : ℕ) (m : List ℕ) where
  pub keeps : {why : Refusal} → Err why ≡ reading_of (load_of file workers m).0 → m ≡ (load_of file workers m).1
  keeps told = elim (loading (read_of file) workers m) [
    | turned_down was is ↦ rw is
    | laid p o_is manned enough is ↦ let q = rw is at told in let z : ◌≡◌ {A = ℕ} 0 1 = cc in absurd (omega arith)
  ]

  module _ {h : Header} (told : Ok h ≡ reading_of (load_of file workers m).0) where
    -- the plan was read, and there is memory for it
    pub was_read : reading_of (read_of file) ≡ Ok h
    was_read = ap reading_of (sym (loaded_read (read_of file) workers m h (sym told))) ∙ sym told

    pub has_room : 32768 ≤ length m
    has_room = elim (loading (read_of file) workers m) [
      | turned_down why is ↦ let q = rw is at told in let z : ◌≡◌ {A = ℕ} 0 1 = cc in absurd (omega arith)
      | laid p o_is manned enough is ↦ enough
    ]

    pub loads : PlanRead file h → {m' : List ℕ} → m' ≡ laid_out (records_in (take h.start file)) m → m' ≡ (load_of file workers m).1
    loads read m_is = elim (loading (read_of file) workers m) [
      | turned_down why is ↦ let q = rw is at told in let z : ◌≡◌ {A = ℕ} 0 1 = cc in absurd (omega arith)
      | laid p o_is manned enough is ↦
          let same : accepted read.plan ≡ accepted p = sym read.reads ∙ o_is in
          let plan_is : read.plan ≡ p = cc in
          m_is ∙ rw is (ap (λ (rs : List Record). laid_out rs m) (read.records ∙ ap (λ (p : Plan). p.records) plan_is))
    ]
