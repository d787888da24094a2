-- A list of choices that a run with rounding accepts is accepted under a larger limit too, and does the same, with the same T and figures.
use mathlib.Core.Path.{◌≡◌, refl, sym, ap, ◌∙◌}
use mathlib.Core.List.{List, [], ◌∷◌, head-eq_of_cons-eq}
use Prim.Native.Nat.{ℕ, ◌≤◌}
use native.Mathlib.Omega.{arith}
use Rattle.rules.specs.Lists.{Every}
use Rattle.rules.specs.Sources.{Source}
use Rattle.rules.specs.RunState.{Machine}
use Rattle.rules.specs.Choices.{Choice, Answer, Chosen, choose_by, answers, follow}
use Rattle.rules.specs.WholeRuns.{Accepted, with_workers}
use Rattle.rules.specs.Offers.{is_refused}
use Rattle.rules.specs.Rounding.{Run, Lending, RoundedChosen, accept, choose_rounded, answers_rounded, follow_rounded}
use Rattle.rules.specs.RoundedRuns.{handed_on, figures_left}
use Rattle.rules.specs.RoundedWorkers.{more_run, accepted_of, accepted_handed_on}
use Rattle.rules.specs.RoundedWorkers.{ReusedRounded, AcceptedReusedRounded, ReusedHandedOn, AcceptedReusedHandedOn, MoreWorkersRounded}
use Rattle.rules.proofs.choices.Offered.{is_accepted_lem}
use Rattle.rules.proofs.choices.Outcomes.{workers_kept}
use Rattle.rules.proofs.runs.AcceptedOnly.{events_accepted}
use Rattle.rules.proofs.runs.MoreWorkers.{more_workers}
use Rattle.rules.proofs.rounding.Choice.{plain}
use Rattle.rules.proofs.rounding.Accepting.{Passed, passed_is, accepted_passed}
use Rattle.rules.proofs.rounding.AcceptedOnly.{only_choices, only_told, only_left, only_lent, only_figures}

-- what a choice returns and leaves, with another limit
abbrev more_chosen : {X : Type 0} → ℕ → RoundedChosen X → RoundedChosen X
more_chosen larger c = record { answer = c.answer; run = more_run larger c.run; figures = c.figures }

module _ {X : Type 0} (S : Source X) (larger : ℕ) (most : larger ≤ 32) where
  -- without rounding: one accepted choice
  bare_more : (m : Machine X) → m.workers ≤ larger → (c : Choice) → Accepted (choose_by S m c).answer →
      choose_by S (with_workers larger m) c ≡ record { answer = (choose_by S m c).answer; machine = with_workers larger (choose_by S m c).machine }
  unfolding answers follow
  bare_more m more c ok =
      let same = (more_workers S m).reused larger more most (c ∷ []) (ok, tt) in
      λ i. record { answer = head-eq_of_cons-eq same.events i; machine = same.left i }

  module _ (r : Run X) (more : r.machine.workers ≤ larger) (a : Lending) where
    -- one accepted choice with rounding does the same, and W stays
    record More : Type 0 where
      same : choose_rounded S (more_run larger r) a ≡ more_chosen larger (choose_rounded S r a)
      kept : (choose_rounded S r a).run.machine.workers ≤ larger

    choose_more : Accepted (choose_rounded S r a).answer → More
    choose_more ok =
        let p = accepted_passed S r a ok in
        let bare = bare_more r.machine more a.choice (is_accepted_lem _ p.own_accepted) in
        let answer : (plain S (more_run larger r) a).answer ≡ (plain S r a).answer = ap (λ (c : Chosen X). c.answer) bare in
        let passed : Passed S (more_run larger r) a = record {
          in_range = p.in_range;
          own_accepted = ap is_refused answer ∙ p.own_accepted;
          fits = p.fits;
          within = rw answer p.within;
        } in
        record {
          same = passed_is S (more_run larger r) a passed ∙ ap (accept (more_run larger r) a) bare ∙ sym (ap (more_chosen larger) (passed_is S r a p));
          kept =
              omega (
                arith,
                ap (λ (c : RoundedChosen X). c.run.machine.workers) (passed_is S r a p),
                workers_kept S r.machine a.choice.worker a.choice.line,
              );
        }

  -- lists of choices, whatever is lent to each
  reuse : (lendings : List Lending) (r : Run X) → r.machine.workers ≤ larger → Every Accepted (answers_rounded S r lendings) →
      ReusedRounded S r (more_run larger r) lendings
  unfolding answers_rounded follow_rounded
  reuse [] r more ok = record { accepted = tt; events = refl; left = refl }
  reuse (a ∷ rest) r more ok =
      let one = choose_more r more a ok.0 in
      let then = reuse rest (choose_rounded S r a).run one.kept ok.1 in
      record {
        accepted = rw one.same (ok.0, then.accepted);
        events = rw one.same (ap (λ (l : List Answer). (choose_rounded S r a).answer ∷ l) then.events);
        left = rw one.same then.left;
      }

  reuse_accepted : (lendings : List Lending) (r : Run X) → r.machine.workers ≤ larger → AcceptedReusedRounded S r (more_run larger r) lendings
  reuse_accepted lendings r more =
      let ok : Every Accepted (answers_rounded S r (accepted_of S r lendings)) = rw (only_told S r lendings) (events_accepted (answers_rounded S r lendings)) in
      let again = reuse (accepted_of S r lendings) r more ok in
      record {
        choices = only_choices lendings (answers_rounded S r lendings);
        accepted = again.accepted;
        events = again.events ∙ only_told S r lendings;
        left = again.left ∙ ap (more_run larger) (only_left S r lendings);
      }

  -- with the same cells throughout and the figures handed on
  module _ (cells : List ℕ) where
    lent_more : (cs : List Choice) (r : Run X) → r.machine.workers ≤ larger → (figures : List ℕ) →
        Every Accepted (answers_rounded S r (handed_on S cells r figures cs)) →
        (handed_on S cells (more_run larger r) figures cs ≡ handed_on S cells r figures cs) ×
        (figures_left S cells (more_run larger r) figures cs ≡ figures_left S cells r figures cs)
    unfolding answers_rounded handed_on figures_left
    lent_more [] r more figures ok = (refl, refl)
    lent_more (c ∷ cs) r more figures ok =
        let a : Lending = record { choice = c; cells = cells; figures = figures } in
        let one = choose_more r more a ok.0 in
        let then = lent_more cs (choose_rounded S r a).run one.kept (choose_rounded S r a).figures ok.1 in
        (rw one.same (ap (λ (l : List Lending). a ∷ l) then.0), rw one.same then.1)

    reuse_handed : (cs : List Choice) (r : Run X) → r.machine.workers ≤ larger → (figures : List ℕ) →
        Every Accepted (answers_rounded S r (handed_on S cells r figures cs)) → ReusedHandedOn S r (more_run larger r) cells figures cs
    reuse_handed cs r more figures ok =
        let (lent, published) = lent_more cs r more figures ok in
        let again = reuse (handed_on S cells r figures cs) r more ok in
        record {
          lent = lent;
          accepted = rw lent again.accepted;
          events = rw lent again.events;
          left = rw lent again.left;
          published = published;
        }

    reuse_accepted_handed : (cs : List Choice) (r : Run X) → r.machine.workers ≤ larger → (figures : List ℕ) →
        AcceptedReusedHandedOn S r (more_run larger r) cells figures cs
    reuse_accepted_handed cs r more figures =
        let lent = only_lent S cells cs r figures in
        let told : answers_rounded S r (handed_on S cells r figures (accepted_handed_on S r cells figures cs)) ≡ _ = ap (answers_rounded S r) lent ∙ only_told S r _ in
        let again = reuse_handed (accepted_handed_on S r cells figures cs) r more figures (rw told (events_accepted _)) in
        record {
          accepted = again.accepted;
          events = again.events ∙ told;
          left = again.left ∙ ap (more_run larger) (ap (follow_rounded S r) lent ∙ only_left S r _);
          published = again.published ∙ only_figures S cells cs r figures;
        }

-- so of every run
pub more_workers_rounded : {X : Type 0} (S : Source X) (r : Run X) → MoreWorkersRounded S r
more_workers_rounded S r = record {
  reused = λ larger more most lendings ok. reuse S larger most lendings r more ok;
  accepted_reused = λ larger more most lendings. reuse_accepted S larger most lendings r more;
  handed_on_lem = λ larger more most cells figures cs ok. reuse_handed S larger most cells cs r more figures ok;
  accepted_handed_on_lem = λ larger more most cells figures cs. reuse_accepted_handed S larger most cells cs r more figures;
}
