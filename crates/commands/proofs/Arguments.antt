-- Numbers in a row and events, as the code reads them: the last one is the rest of the text, and a rest with a space in it is no number.
use mathlib.Core.Path.{◌≡◌, refl, sym, ap, ◌∙◌}
use mathlib.Core.Bool.{true, false}
use mathlib.Core.List.{List, [], ◌∷◌}
use Prim.Native.Nat.{ℕ, ◌-◌}
use lib.ListN.{length, get_or, take, drop}
use lib.Dec.{eqb}
use native.Mathlib.Omega.{arith}
use borrow.Author.Tests.{eq-eqb, ne_eqb}
use Rattle.rules.specs.Lists.{has, within}
use Rattle.rules.proofs.lists.Tests.{by_test}
use Rattle.words.specs.Words as texts
use Rattle.words.specs.Words.{up_to, past}
use Rattle.words.specs.Numbers.{short_of}
use Rattle.std.specs.Prelude.{Option, Some, None}
use Rattle.vocabulary.specs.declared.event.Step.{Step}
use Rattle.vocabulary.specs.declared.event.Event.{Event}
use Rattle.commands.specs.declared.numbers.Two.{Two}
use Rattle.words.proofs.Walks.{rest_is}
use Rattle.words.proofs.Splits.{words_one, words_some, words_cons, past_none, up_to_all, stop_in_none, none_in_empty}
use Rattle.commands.specs.Arguments.{space, words_in, pair_of, pair_in, step_of, step_in}
use Rattle.commands.specs.Commands.{stop_in, event_of, event_in}

-- what follows the first word
pub rest_at : (text : List ℕ) (at : ℕ) → drop at text ≡ past space text → take (length text - at) (drop at text) ≡ past space text
rest_at text at e = rest_is text at ∙ e

-- a space is no digit
no_digit : within 48 57 space ≡ false
unfolding within
no_digit = refl

spaced : (text : List ℕ) → has text space ≡ true → short_of text ≡ None
spaced text e = stop_in_none space no_digit text e

-- where a number is missing there are not all
pair_none : (x : Option ℕ) → pair_of x None ≡ None
pair_none (Some a) = refl
pair_none None = refl

step_none : (x y : Option Two) → step_of x y None ≡ None
step_none (Some a) (Some b) = refl
step_none (Some a) None = refl
step_none None y = refl

-- two numbers
pair_words : (text : List ℕ) → pair_of (short_of (up_to space text)) (short_of (past space text)) ≡ pair_in (words_in text)
unfolding pair_in
pair_words text =
    let first : Option ℕ = short_of (up_to space text) in
    by_test (has text space)
    (λ e. by_test (has (past space text) space)
    (λ f. words_cons space (past space (past space text)) (λ word words q.
    rw (words_some space text e, words_some space (past space text) f, q, spaced (past space text) f) (pair_none first)))
    (λ f. rw (words_some space text e, words_one space (past space text) f)))
    (λ e. rw (words_one space text e, past_none space text e, none_in_empty) (pair_none first))

-- line, pipe, token, place and worker
module _ (text : List ℕ) where
  abbrev t1 : List ℕ
  t1 = past space text

  abbrev t2 : List ℕ
  t2 = past space t1

  abbrev t3 : List ℕ
  t3 = past space t2

  abbrev t4 : List ℕ
  t4 = past space t3

  abbrev stage : Option Two
  stage = pair_of (short_of (up_to space text)) (short_of (up_to space t1))

  abbrev order : Option Two
  order = pair_of (short_of (up_to space t2)) (short_of (up_to space t3))

  no_step : short_of t4 ≡ None → step_in (words_in text) ≡ None →
      step_of stage order (short_of t4) ≡ step_in (words_in text)
  no_step e none = ap (step_of stage order) e ∙ step_none stage order ∙ sym none

  step_words : step_of stage order (short_of t4) ≡ step_in (words_in text)
  unfolding step_in past
  step_words =
      by_test (has text space)
      (λ a. by_test (has t1 space)
      (λ b. by_test (has t2 space)
      (λ c. by_test (has t3 space)
      (λ d. by_test (has t4 space)
      (λ e. words_cons space (past space t4) (λ word words q.
      no_step (spaced t4 e) (rw (words_some space text a, words_some space t1 b, words_some space t2 c, words_some space t3 d, words_some space t4 e, q))))
      (λ e. rw (words_some space text a, words_some space t1 b, words_some space t2 c, words_some space t3 d, words_one space t4 e)))
      (λ d. no_step (rw (past_none space t3 d) none_in_empty) (rw (words_some space text a, words_some space t1 b, words_some space t2 c, words_one space t3 d))))
      (λ c. no_step (rw (past_none space t2 c) none_in_empty) (rw (words_some space text a, words_some space t1 b, words_one space t2 c))))
      (λ b. no_step (rw (past_none space t1 b) none_in_empty) (rw (words_some space text a, words_one space t1 b))))
      (λ a. no_step (rw (past_none space text a) none_in_empty) (rw (words_one space text a)))

-- the word of a kind is its letter
pub kind_is : (kind : List ℕ) (c : ℕ) → length kind ≡ 1 → get_or kind 0 0 ≡ c → texts.same kind (c ∷ []) ≡ true
unfolding texts.same
kind_is [] c h e = absurd (omega arith)
kind_is (b ∷ []) c h e = rw (eq-eqb b c e)
kind_is (b ∷ d ∷ s) c h e = absurd (omega arith)

pub kind_not : (kind : List ℕ) (c : ℕ) → (get_or kind 0 0 ≡ c → ⊥) → texts.same kind (c ∷ []) ≡ false
unfolding texts.same
kind_not [] c n = refl
kind_not (b ∷ s) c n = rw (ne_eqb b c n)

pub kind_long : (kind : List ℕ) (c : ℕ) → (length kind ≡ 1 → ⊥) → texts.same kind (c ∷ []) ≡ false
unfolding texts.same
kind_long [] c n = refl
kind_long (b ∷ []) c n = absurd (n refl)
kind_long (b ∷ d ∷ s) c n = by_test (eqb b c) (λ e. rw e) (λ e. rw e)

-- an event: without a space there is no number behind its kind
take_words : (text : List ℕ) → event_of (up_to space text) (words_in (past space text)) ≡ event_in (words_in text)
unfolding event_in event_of stop_in pair_in step_in texts.words_in
take_words text =
    by_test (has text space)
    (λ e. rw (words_some space text e))
    (λ e. rw (words_one space text e, up_to_all space text e, past_none space text e))

module _ (text : List ℕ) where
  -- two numbers, as read
  pub pair_read : {second : List ℕ} {r : Option Two} → second ≡ past space text → r ≡ pair_of (short_of (up_to space text)) (short_of second) →
      r ≡ pair_in (words_in text)
  pair_read second_is r-is = r-is ∙ ap (λ x. pair_of (short_of (up_to space text)) (short_of x)) second_is ∙ pair_words text

  -- the five numbers of a start or a finish
  pub step_read : {u1 u2 u3 u4 : List ℕ} {r : Option Step} →
      u1 ≡ past space text → u2 ≡ past space u1 → u3 ≡ past space u2 → u4 ≡ past space u3 →
      r ≡ step_of (pair_of (short_of (up_to space text)) (short_of (up_to space u1))) (pair_of (short_of (up_to space u2)) (short_of (up_to space u3))) (short_of u4) →
      r ≡ step_in (words_in text)
  step_read u1-is u2-is u3-is u4-is r-is = rw (← step_words text, r-is, u4-is, u3-is, u2-is, u1-is)

  -- an event
  pub take_read : {kind rest : List ℕ} {r : Option Event} → kind ≡ up_to space text → rest ≡ past space text → r ≡ event_of kind (words_in rest) →
      r ≡ event_in (words_in text)
  take_read kind-is rest_is r-is = rw (← take_words text, ← kind-is, ← rest_is) r-is
