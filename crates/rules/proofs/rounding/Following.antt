-- A list of choices in a run with rounding, whatever is lent to each.
use mathlib.Core.Path.{◌≡◌, refl, sym, ap, ◌∙◌}
use mathlib.Core.List.{List, [], ◌∷◌, ◌++◌, append_assoc, append-nil}
use Prim.Native.Nat.{ℕ, ◌+◌}
use native.Mathlib.Omega.{arith}
use lib.ListN.{get_or}
use lib.Seq.{get_or-set_same}
use Rattle.rules.specs.Lists.{keep, Every}
use Rattle.rules.specs.Sources.{Source}
use Rattle.rules.specs.RunState.{Pipeline}
use Rattle.rules.specs.Choices.{Choice, Answer, Refused}
use Rattle.rules.specs.WholeRuns.{PipelineInRange, WorkersInRange, Sheet}
use Rattle.rules.specs.Offers.{is_refused}
use Rattle.rules.specs.MoreWorkers.{is_event, without_refusals, accepted_choices}
use Rattle.rules.specs.Rounding.{rise, Rounding, with_sum, Run, Lending, answers_rounded, follow_rounded}
use Rattle.rules.specs.RoundedRuns.{sum_of, AtOpening, cells_in, tokens_in, choices_of, passed_cells}
use Rattle.rules.proofs.lists.Tests.{never}
use Rattle.rules.proofs.rounding.Sums.{Carried}
use Rattle.rules.proofs.rounding.Choice.{event_told}
use Rattle.rules.proofs.rounding.Passers.{passers_of, passing_with, passing_refused}
use Rattle.rules.proofs.rounding.Steps.{told, at, Few, Step, refuses, goes, passes, step}

-- one element between two lists
append_one : {s : List Answer} (l : List Answer) (e : Answer) → s ≡ l ++ (e ∷ []) → (rest : List Answer) → s ++ rest ≡ l ++ (e ∷ rest)
append_one l e h rest = ap (λ (k : List Answer). k ++ rest) h ∙ append_assoc l (e ∷ []) rest

module _ {X : Type 0} {S : Source X} {plan : Pipeline} (ranged : PipelineInRange plan)
    {workers : ℕ} (manned : WorkersInRange workers) {x : X} {order : List ℕ} {z : X}
    (sheet : Sheet S plan x order z) {r : Rounding} (opens : AtOpening plan r) where
  abbrev said : List Choice → List Answer
  said ls = told ranged manned sheet opens ls

  abbrev here : List Choice → ℕ → Run X
  here ls sum = at ranged manned sheet opens ls sum

  -- where some choices lead from the run after so many accepted ones, with this T
  pub record From (ls : List Choice) (sum : ℕ) (lendings : List Lending) : Type 0 where
    pub to : List Choice
    pub sum_to : ℕ
    pub to_is : to ≡ ls ++ accepted_choices (choices_of lendings) (answers_rounded S (here ls sum) lendings)
    pub end_is : follow_rounded S (here ls sum) lendings ≡ here to sum_to
    pub told_is : said to ≡ said ls ++ without_refusals (answers_rounded S (here ls sum) lendings)
    pub few : Few ranged manned sheet opens to sum_to
    pub carried : Carried r.base sum (passed_cells S (here ls sum) lendings)
    pub sum_is : sum_to ≡ sum + sum_of (cells_in (passed_cells S (here ls sum) lendings))
    pub tokens_are : tokens_in (passed_cells S (here ls sum) lendings) ≡ passers_of r (answers_rounded S (here ls sum) lendings)
    pub never_spoiled : Every (λ a. a ≡ Refused 14 → ⊥) (answers_rounded S (here ls sum) lendings)

  stays : (ls : List Choice) (sum : ℕ) → Few ranged manned sheet opens ls sum → From ls sum []
  unfolding follow_rounded answers_rounded accepted_choices passed_cells is_event keep passers_of sum_of
  stays ls sum few = record {
    to = ls;
    sum_to = sum;
    to_is = sym (append-nil ls);
    end_is = refl;
    told_is = sym (append-nil (said ls));
    few = few;
    carried = tt;
    sum_is = omega arith;
    tokens_are = refl;
    never_spoiled = tt;
  }

  -- one choice before others
  module _ (a : Lending) (more : List Lending) (go : (ls : List Choice) (sum : ℕ) → Few ranged manned sheet opens ls sum → From ls sum more)
      (ls : List Choice) (sum : ℕ) (few : Few ranged manned sheet opens ls sum) where
    one_more : Step ranged manned sheet opens ls sum a → From ls sum (a ∷ more)
    unfolding follow_rounded answers_rounded accepted_choices passed_cells is_event keep passers_of sum_of
    one_more (refuses n h q) =
        let f : From ls sum more = go ls sum few in
        record {
          to = f.to;
          sum_to = f.sum_to;
          to_is = rw q f.to_is;
          end_is = rw q f.end_is;
          told_is = rw q f.told_is;
          few = f.few;
          carried = rw (q, passing_refused) f.carried;
          sum_is = rw (q, passing_refused) f.sum_is;
          tokens_are = rw (q, passing_refused (with_sum r sum) n, passing_refused r n) f.tokens_are;
          never_spoiled = rw q (λ e. h (cc), f.never_spoiled);
        }
    one_more (goes e d p t q fewer) =
        let f : From (ls ++ (a.choice ∷ [])) sum more = go (ls ++ (a.choice ∷ [])) sum fewer in
        record {
          to = f.to;
          sum_to = f.sum_to;
          to_is = rw (q, event_told e d) (f.to_is ∙ append_assoc ls (a.choice ∷ []) _);
          end_is = rw q f.end_is;
          told_is = rw (q, event_told e d) (f.told_is ∙ append_one (said ls) e t _);
          few = f.few;
          carried = rw (q, passing_with r sum e, p) f.carried;
          sum_is = rw (q, passing_with r sum e, p) f.sum_is;
          tokens_are = rw (q, passing_with r sum e, p) f.tokens_are;
          never_spoiled = rw q (λ w. never (sym (ap is_refused w) ∙ d), f.never_spoiled);
        }
    one_more (passes e i d p t q fewer b) =
        let c : ℕ = get_or a.cells i 0 in
        let f : From (ls ++ (a.choice ∷ [])) (sum + c) more = go (ls ++ (a.choice ∷ [])) (sum + c) fewer in
        record {
          to = f.to;
          sum_to = f.sum_to;
          to_is = rw (q, event_told e d) (f.to_is ∙ append_assoc ls (a.choice ∷ []) _);
          end_is = rw q f.end_is;
          told_is = rw (q, event_told e d) (f.told_is ∙ append_one (said ls) e t _);
          few = f.few;
          carried = rw (q, passing_with r sum e, p) (get_or-set_same a.figures i (rise r.base sum c) 0 b, f.carried);
          sum_is = rw (q, passing_with r sum e, p) (omega (arith, f.sum_is));
          tokens_are = rw (q, passing_with r sum e, p) (ap (λ (l : List ℕ). i ∷ l) f.tokens_are);
          never_spoiled = rw q (λ w. never (sym (ap is_refused w) ∙ d), f.never_spoiled);
        }

  pub from : (lendings : List Lending) (ls : List Choice) (sum : ℕ) → Few ranged manned sheet opens ls sum → From ls sum lendings
  from [] ls sum few = stays ls sum few
  from (a ∷ more) ls sum few = one_more a more (from more) ls sum few (step ranged manned sheet opens ls sum few a)
