-- The example of twenty cells holds of the rules.
use mathlib.Core.Path.{◌≡◌, refl, sym, ap, ◌∙◌}
use mathlib.Core.Bool.{true, false}
use mathlib.Core.List.{List, [], ◌∷◌, map}
use Prim.Native.Nat.{ℕ, zero, suc, ◌-◌, ◌≤◌, ◌<◌}
use native.Mathlib.Omega.{arith}
use lib.Dec.{eqb}
use lib.ListN.{get_or, take, replicate}
use lib.Seq.{ext_get_or}
use borrow.Author.Tests.{eqb-true}
use Rattle.rules.specs.Lists.{every, range, keep, has, empty, times}
use Rattle.rules.specs.TakingTokens as tables
use Rattle.rules.specs.TakingTokens.{is_due, take_new, take_from, release}
use Rattle.rules.specs.Choices.{Choice, ended}
use Rattle.rules.specs.PlainSheet.{sheet, closed, written}
use Rattle.rules.specs.WholeRuns.{PipelineInRange, WorkersInRange, Sheet, one_worker}
use Rattle.rules.specs.Rounding.{published, is_base, cells_fit, lent_fits, lent_count}
use Rattle.rules.specs.RoundedRuns.{sum_of, AtOpening, rounds, CarriedRun}
use Rattle.rules.proofs.lists.Places.{at_place}
use Rattle.rules.proofs.lists.Counting.{members}
use Rattle.rules.proofs.sheet.PlainSheet.{sheet_writes, sheet_short, sheet_distinct, sheet_below}
use Rattle.rules.proofs.runs.WholeRuns.{one_worker_ends}
use Rattle.rules.proofs.lists.Holding.{every_at}
use Rattle.rules.proofs.rounding.CarriedRuns.{carried_run}
use Rattle.cases.specs.TwentyCells.{source, plan, to_five, twenty, carried, Ends, sum_at_end, figures, TwentyCells}

-- the order is that of the tokens
abbrev order : List ℕ
order = range 0 20

none_listed : (n : ℕ) → has [] n ≡ false
unfolding has
none_listed n = refl

sheet_is : sheet 20 (λ n. []) ≡ order
unfolding sheet written tables.take take_from take_new release is_due keep has empty range
sheet_is = refl

none_past : (p : ℕ) → 1 ≤ p → get_or (true ∷ []) p false ≡ false
none_past zero h = absurd (omega arith)
none_past (suc p) h = refl

ranged : PipelineInRange plan
ranged = record {
  pipes_some = omega arith;
  pipes_most = omega arith;
  lines_some = omega arith;
  lines_most = omega arith;
  tokens_most = omega arith;
  first_serial = refl;
  rest_clear = none_past;
}

written_so : Sheet source plan tables.opened order (closed 20 (λ n. []))
written_so =
    let q : Sheet source plan tables.opened (sheet 20 (λ n. [])) (closed 20 (λ n. [])) = record {
      writes = sheet_writes 20 (λ n. []) none_listed;
      fits = sheet_short 20 (λ n. []) none_listed;
      known = λ k h. sheet_below 20 (λ n. []) none_listed _ (omega (members, at_place (sheet 20 (λ n. [])) k h));
    } in
    rw sheet_is at q

once : (n : ℕ) → times n order ≤ 1
once n = rw sheet_is at (sheet_distinct 20 (λ n. []) none_listed n)

opens : AtOpening plan to_five
unfolding is_base
opens = rounds {pipe = 0} {base = 5} (omega arith) refl refl

-- a run
module _ {workers : ℕ} (manned : WorkersInRange workers) (ls : List Choice) where
  run : CarriedRun source plan workers tables.opened to_five twenty ls order
  run = carried_run ranged manned written_so once opens twenty ls

  module _ (over : Ends workers ls) where
    all_twenty : run.passed ≡ 20
    unfolding is_base range
    all_twenty = run.all_passed refl over

    sum_forty : sum_at_end workers ls ≡ 40
    unfolding sum_of range
    sum_forty = run.sum_is ∙ ap (λ k. sum_of (map (λ t. get_or twenty t 0) (take k order))) all_twenty

    -- what the token at place k publishes, by the rule
    abbrev ruled : ℕ → ℕ
    ruled k = published 5 (sum_of (map (λ t. get_or twenty t 0) (take (suc k) order))) - published 5 (sum_of (map (λ t. get_or twenty t 0) (take k order)))

    as_ruled : every 20 (λ k. eqb (ruled k) (get_or carried k 0)) ≡ true
    unfolding every published sum_of range
    as_ruled = refl

    in_place : every 20 (λ k. eqb (get_or order k 0) k) ≡ true
    unfolding every range
    in_place = refl

    figures_carried_lem : figures workers ls ≡ carried
    unfolding lent_count
    figures_carried_lem = ext_get_or 0 (figures workers ls) carried run.size (λ k h.
        let b : k < 20 = omega (arith, run.size) in
        ap (λ t. get_or (figures workers ls) t 0) (sym (eqb-true _ _ (every_at 20 k (λ k. eqb (get_or order k 0) k) b in_place))) ∙
        run.figure_is k (omega (arith, all_twenty)) ∙
        eqb-true _ _ (every_at 20 k (λ k. eqb (ruled k) (get_or carried k 0)) b as_ruled))

one : WorkersInRange 1
one = record { some = omega arith; most = omega arith }

fits : lent_fits (lent_count 20 to_five) twenty (replicate (lent_count 20 to_five) 0) ≡ true
unfolding lent_count lent_fits cells_fit every
fits = refl

one_over : Ends 1 (one_worker plan 0 20)
unfolding range
one_over = ap ended ((run one (one_worker plan 0 20)).as_without fits).1 ∙ one_worker_ends ranged written_so

-- the example
pub twenty_cells : TwentyCells
unfolding published sum_of
twenty_cells = record {
  alone = refl;
  all_sum = λ workers manned ls over. sum_forty manned ls over;
  all_figures = λ workers manned ls over. figures_carried_lem manned ls over;
  together = refl;
  one_ends = one_over;
}
