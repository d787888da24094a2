-- What a valid plan gives the rules: ranges, records that fit the memory, and no token that lists itself.
use mathlib.Core.Path.{◌≡◌, refl, sym, ap, subst, ◌∙◌}
use mathlib.Core.Logic.{by_cases}
use mathlib.Core.Bool.{Bool, true, false}
use mathlib.Core.List.{List, [], ◌∷◌, ◌++◌, map}
use Prim.Native.Nat.{ℕ, ◌+◌, ◌-◌, ◌≤◌, ◌<◌}
use native.Mathlib.Omega.{arith}
use native.Mathlib.Decide.{dec_lt}
use borrow.Author.Tests.{eqb-true, ne_eqb}
use lib.Dec.{eqb}
use lib.ListN.{length, get_or, take, drop, replicate, length-append, length-drop, length-map, length-replicate, get_or-replicate, get_or-eq_default}
use lib.Seq.{take_at, get_or-append-add}
use Rattle.rules.specs.Lists.{has}
use Rattle.rules.specs.PlainSheet.{numbers_of}
use Rattle.rules.specs.WholeRuns.{PipelineInRange}
use Rattle.rules.proofs.lists.Tests.{by_test}
use Rattle.plan.specs.Plan.{Plan, Record, Valid, ValidRecord, FirstSerial}
use Rattle.rules.specs.Lists.{Every}
use Rattle.vocabulary.specs.declared.pipe_kind.PipeKind.{PipeKind}
use Rattle.tables.specs.Facts.{standing_of}
use Rattle.tables.specs.Matching.{Recorded}
use Rattle.loading.specs.Plans.{numbers_in, serial_of, pipeline_of}
use Rattle.vocabulary.specs.PipeKinds.{serial_kind}
use Rattle.loading.specs.Layout.{zeros, laid_facts, laid_out}
use Rattle.loading.proofs.memory_laid.LayoutLaws.{length_zeros}
use Rattle.loading.proofs.loading.PlanRead.{fits}
use Rattle.demands.proofs.LaidMemory.{length_facts, laid_standing, laid_recorded}

-- a list of `false` has nothing else
falses_at : (n i : ℕ) → get_or (replicate n false) i false ≡ false
falses_at n i = by_cases (dec_lt i n)
    (λ h. get_or-replicate n i false false h)
    (λ h. get_or-eq_default (replicate n false) false (rw (length-replicate {A = Bool} n false) (omega arith)))

-- pipe 0 is serial
first_serial : (kinds : List PipeKind) → FirstSerial kinds → (0 < length kinds) × (get_or (serial_of kinds) 0 false ≡ true)
first_serial [] h = absurd h
first_serial (k ∷ ks) h = (omega arith, rw h)

-- no pipe past the last is serial
rest_clear : (kinds : List PipeKind) (p : ℕ) → length kinds ≤ p → get_or (serial_of kinds) p false ≡ false
rest_clear kinds p h =
    let k : ℕ = p - length kinds in
    let p-is : length (map serial_kind kinds) + k ≡ p = omega (arith, length-map kinds serial_kind) in
    rw (← p-is)
    (get_or-append-add (map serial_kind kinds) (replicate (16 - length (map serial_kind kinds)) false) k false
    ∙ falses_at (16 - length (map serial_kind kinds)) k)

-- numbers that all differ from one do not have it
has_not : (n : ℕ) (ns : List ℕ) → Every (λ m. m ≡ n → ⊥) ns → has ns n ≡ false
unfolding has
has_not n [] h = refl
has_not n (m ∷ ns) h = rw (ne_eqb m n h.0) (has_not n ns h.1)

-- no record lists its own token
none_self : (tokens : ℕ) (rs : List Record) → Every (ValidRecord tokens) rs → (n : ℕ) → has (numbers_in rs n) n ≡ false
unfolding numbers_of has
none_self tokens [] each n = refl
none_self tokens (r ∷ rs) each n = by_test (eqb r.token n)
    (λ e. rw e (rw (eqb-true r.token n e) at (has_not r.token r.numbers each.0.others)))
    (λ e. rw e (none_self tokens rs each.1 n))

module _ {p : Plan} (valid : Valid p) where
  pub ranged : PipelineInRange (pipeline_of p)
  ranged =
      let (some, serial) = first_serial p.kinds valid.first_serial in
      record {
        pipes_some = some;
        pipes_most = valid.pipes;
        lines_some = valid.some_line;
        lines_most = valid.lines;
        tokens_most = valid.tokens;
        first_serial = serial;
        rest_clear = rest_clear p.kinds;
      }

  pub others : (n : ℕ) → has (numbers_in p.records n) n ≡ false
  others = none_self p.tokens p.records valid.records

  module _ (m : List ℕ) where
    facts_are : take 20480 (laid_out p.records m) ≡ laid_facts p.records
    unfolding laid_out
    facts_are = take_at (laid_facts p.records) (zeros 12288 ++ drop 32768 m) 20480 (length_facts p.records (fits valid))

    pub length_laid : length (laid_out p.records m) ≡ 32768 + (length m - 32768)
    unfolding laid_out
    length_laid = omega (
      arith,
      length-append (laid_facts p.records) (zeros 12288 ++ drop 32768 m),
      length-append (zeros 12288) (drop 32768 m),
      length_facts p.records (fits valid),
      length_zeros 12288,
      length-drop 32768 m,
    )

    -- what the tables in memory ask of it at opening
    pub whole : 32768 ≤ length (laid_out p.records m)
    whole = omega (arith, length_laid)

    pub recorded : (n : ℕ) → n < p.tokens → Recorded (take 20480 (laid_out p.records m)) n (numbers_in p.records n)
    recorded n h =
        subst (λ (f : List ℕ). Recorded f n (numbers_in p.records n)) (sym facts_are)
        (laid_recorded p.records (fits valid) p.tokens valid.records n (omega (arith, valid.tokens)))

    pub unmarked : (n : ℕ) → standing_of (take 20480 (laid_out p.records m)) n ≡ 0
    unmarked n = ap (λ (f : List ℕ). standing_of f n) facts_are ∙ laid_standing p.records (fits valid) n
