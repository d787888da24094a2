-- The walk over a journal's events, turn by turn.
use Rattle.std.proofs.Common.{◌≡◌, sym, ap, ◌∙◌, Bool, true, not, ℕ, zero, suc, ◌+◌, ◌<◌, ◌≤◌, List, [], ◌∷◌, length, get_or, drop, slice_get, None, arith}
use Rattle.std.proofs.lemmas.List.{at_drop_more, at_drop_all}
use Rattle.vocabulary.specs.declared.event.EventRecord.{EventRecord}
use Rattle.rules.specs.Journals.{Marked, goes_on, mark_more}
use Rattle.rules.proofs.runs.Journals.{more_none, more_step}
use Rattle.tables.specs.State as tables
use Rattle.tables.specs.Calls.{memory_source}
use Rattle.marking.specs.declared.Progress.{Progress}
use Rattle.marking.specs.Marking.{verdict_of, marked_of}
use Rattle.marking.proofs.StepLaws.{settled_stays}

-- the events from an index on, after a progress and its memory, come to what all of them come to
abbrev pub LeftFrom : List EventRecord → Marked tables.State → ℕ → Progress → List ℕ → Type 0
LeftFrom es w i p m = mark_more memory_source w 0 es ≡ mark_more memory_source (marked_of p m) i (drop i es)

-- an index at which there is none
pub no_event : (es : List EventRecord) (i : ℕ) → slice_get es i ≡ None → length es ≤ i
no_event [] i none = omega arith
no_event (e ∷ es) zero none = let z : ◌≡◌ {A = ℕ} 0 1 = cc in absurd (omega arith)
no_event (e ∷ es) (suc i) none = omega (arith, no_event es i none)

module _ (es : List EventRecord) (w : Marked tables.State) (i : ℕ) (p : Progress) (m : List ℕ) (left : LeftFrom es w i p m) where
  -- an event leads on to those that are left
  pub walk_turns : (e : EventRecord) (q : Progress) (n : List ℕ) → i < length es → get_or es i e ≡ e → marked_of q n ≡ mark_more memory_source (marked_of p m) i (e ∷ []) →
      LeftFrom es w (i + 1) q n
  walk_turns e q n h e_is made =
      left
      ∙ at_drop_more (mark_more memory_source (marked_of p m) i) es i e h
      ∙ sym (more_step memory_source (marked_of p m) i (get_or es i e) (drop (i + 1) es))
      ∙ ap (λ v. mark_more memory_source v (i + 1) (drop (i + 1) es)) (ap (λ r. mark_more memory_source (marked_of p m) i (r ∷ [])) e_is ∙ sym made)

  -- no event is left, or none is looked at any more
  pub walk_ends : length es ≤ i → marked_of p m ≡ mark_more memory_source w 0 es
  walk_ends h = sym (left ∙ at_drop_all (mark_more memory_source (marked_of p m) i) es i h ∙ more_none memory_source (marked_of p m) i)

  pub walk_settled : {b : Bool} → b ≡ not (goes_on (verdict_of p.marking)) → b ≡ true → marked_of p m ≡ mark_more memory_source w 0 es
  walk_settled b_is t = sym (left ∙ settled_stays p m i (drop i es) b_is t)
