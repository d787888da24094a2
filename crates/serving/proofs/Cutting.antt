-- A text may be cut anywhere: its lines are those of the first part, and those of what is left of it with the second part behind.
use mathlib.Core.Path.{◌≡◌, refl, sym, ap, ◌∙◌}
use mathlib.Core.Bool.{true, false}
use mathlib.Core.List.{List, [], ◌∷◌, ◌++◌}
use Prim.Native.Nat.{ℕ, ◌+◌}
use native.Mathlib.Omega.{arith}
use lib.Dec.{eqb}
use lib.ListN.{length, drop}
use lib.Seq.{drop-drop}
use Rattle.rules.specs.Lists.{has, Every}
use Rattle.rules.proofs.lists.Tests.{by_test}
use Rattle.words.specs.Words.{up_to, past, onto}
use Rattle.words.proofs.Walks.{past_is}
use Rattle.serving.specs.Lines.{lines_in, rest_of}
use Rattle.commands.specs.Commands.{command_of}
use Rattle.answering.specs.Answers.{Held, answered}
use Rattle.serving.specs.Serving.{for_program, served_from}
use Rattle.serving.proofs.Walk.{lines_none, lines_some}

-- without a newline all is left
rest_none : (s : List ℕ) → has s 10 ≡ false → rest_of s ≡ s
unfolding rest_of has
rest_none [] e = refl
rest_none (b ∷ s) e = by_test (eqb b 10) (λ t. let z : true ≡ false = rw t at e in let y : ◌≡◌ {A = ℕ} 0 1 = cc in absurd (omega arith)) (λ t. rw (rw t at e, t))

-- a byte before lines of which there are some
onto_some : (b : ℕ) (s : List ℕ) (more : List (List ℕ)) → has s 10 ≡ true → onto b (lines_in s ++ more) ≡ onto b (lines_in s) ++ more
onto_some b s more e = rw (lines_some s e)

pub lines_cut : (s t : List ℕ) → lines_in (s ++ t) ≡ lines_in s ++ lines_in (rest_of s ++ t)
unfolding lines_in rest_of
lines_cut [] t = refl
lines_cut (b ∷ s) t =
    by_test (has s 10)
    (λ e. by_test (eqb b 10)
    (λ k. rw (e, k) (ap (λ l. [] ∷ l) (lines_cut s t)))
    (λ k. rw (e, k) (ap (onto b) (lines_cut s t) ∙ onto_some b s (lines_in (rest_of s ++ t)) e)))
    (λ e. by_test (eqb b 10)
    (λ k. rw (e, k, lines_none s e))
    (λ k. rw (e, k, lines_none s e) (rw k)))

module _ (file : List ℕ) where
  -- where lines start plays no part in what they make of the console
  served_anywhere : (lines : List (List ℕ)) (a b : ℕ) (c : Held) → (served_from file a lines c).1 ≡ (served_from file b lines c).1
  unfolding served_from
  served_anywhere [] a b c = refl
  served_anywhere (line ∷ lines) a b c =
      by_test (for_program (command_of line)) (λ e. rw e)
      (λ e. rw e (served_anywhere lines (a + (length line + 1)) (b + (length line + 1)) (answered file (command_of line) c)))

  -- lines are served one after another, where none of the first ones is the program's own
  served_append : (lines more : List (List ℕ)) (a b : ℕ) (c : Held) → Every (λ line. for_program (command_of line) ≡ false) lines →
      (served_from file a (lines ++ more) c).1 ≡ (served_from file b more (served_from file a lines c).1).1
  unfolding served_from
  served_append [] more a b c others = served_anywhere more a b c
  served_append (line ∷ lines) more a b c others =
      rw others.0 (served_append lines more (a + (length line + 1)) b (answered file (command_of line) c) others.1)

  -- so a text may be served in two parts, cut anywhere
  pub served_cut : (s t : List ℕ) (c : Held) → Every (λ line. for_program (command_of line) ≡ false) (lines_in s) →
      (served_from file 0 (lines_in (s ++ t)) c).1 ≡ (served_from file 0 (lines_in (rest_of s ++ t)) (served_from file 0 (lines_in s) c).1).1
  served_cut s t c others = rw (lines_cut s t) (served_append (lines_in s) (lines_in (rest_of s ++ t)) 0 0 c others)

-- what is left of a text is what is left behind its first line
rest_some : (s : List ℕ) → has s 10 ≡ true → rest_of s ≡ rest_of (past 10 s)
unfolding rest_of has past
rest_some [] e = let y : ◌≡◌ {A = ℕ} 0 1 = cc in absurd (omega arith)
rest_some (b ∷ s) e =
    by_test (eqb b 10)
    (λ k. by_test (has s 10) (λ h. rw (k, h)) (λ h. rw (k, h) (sym (rest_none s h))))
    (λ k. let h : has s 10 ≡ true = rw k at e in rw (k, h) (rest_some s h))

-- the first whole line from a place of a text on, and where the next one starts
record First (text : List ℕ) (at : ℕ) (line : List ℕ) (lines : List (List ℕ)) : Type 0 where
  is : up_to 10 (drop at text) ≡ line
  next : past 10 (drop at text) ≡ drop (at + (length line + 1)) text
  others : lines_in (drop (at + (length line + 1)) text) ≡ lines

first : (text : List ℕ) (at : ℕ) (line : List ℕ) (lines : List (List ℕ)) → has (drop at text) 10 ≡ true → lines_in (drop at text) ≡ line ∷ lines →
    First text at line lines
first text at line lines h e =
    let some = lines_some (drop at text) h in
    let line-is : up_to 10 (drop at text) ≡ line = cc in
    let next_is : past 10 (drop at text) ≡ drop (at + (length line + 1)) text = sym (past_is 10 (drop at text)) ∙
    ap (λ l. drop (length l + 1) (drop at text)) line-is ∙ drop-drop (length line + 1) at text in
    let lines_are : lines_in (past 10 (drop at text)) ≡ lines = cc in
    record { is = line-is; next = next_is; others = ap lines_in (sym next_is) ∙ lines_are }

-- without a whole line there is none
none_first : (text : List ℕ) (at : ℕ) (line : List ℕ) (lines : List (List ℕ)) → has (drop at text) 10 ≡ false → lines_in (drop at text) ≡ line ∷ lines → ⊥
none_first text at line lines h e = let none = lines_none (drop at text) h in let y : ◌≡◌ {A = ℕ} 0 1 = cc in omega arith

-- where lines were served up to, what is left starts
module _ (file text : List ℕ) where
  served_up_to : (lines : List (List ℕ)) (at : ℕ) (c : Held) → lines_in (drop at text) ≡ lines →
      Every (λ line. for_program (command_of line) ≡ false) lines → drop (served_from file at lines c).0 text ≡ rest_of (drop at text)
  unfolding served_from
  served_up_to [] at c e others =
      by_test (has (drop at text) 10)
      (λ h. let some = lines_some (drop at text) h in let y : ◌≡◌ {A = ℕ} 0 1 = cc in absurd (omega arith))
      (λ h. sym (rest_none (drop at text) h))
  served_up_to (line ∷ lines) at c e others =
      by_test (has (drop at text) 10)
      (λ h.
      let f = first text at line lines h e in
      rw others.0 (served_up_to lines (at + (length line + 1)) (answered file (command_of line) c) f.others others.1 ∙
      ap rest_of (sym f.next) ∙ sym (rest_some (drop at text) h)))
      (λ h. absurd (none_first text at line lines h e))

  -- a line that is left whole is the program's own
  served_stop : (lines : List (List ℕ)) (at : ℕ) (c : Held) → lines_in (drop at text) ≡ lines →
      has (drop (served_from file at lines c).0 text) 10 ≡ true → for_program (command_of (up_to 10 (drop (served_from file at lines c).0 text))) ≡ true
  unfolding served_from
  served_stop [] at c e h = let some = lines_some (drop at text) h in let y : ◌≡◌ {A = ℕ} 0 1 = cc in absurd (omega arith)
  served_stop (line ∷ lines) at c e h =
      by_test (has (drop at text) 10)
      (λ k.
      let f = first text at line lines k e in
      by_test (for_program (command_of line))
      (λ t. rw (t, f.is) t)
      (λ t. rw t (served_stop lines (at + (length line + 1)) (answered file (command_of line) c) f.others (rw t at h))))
      (λ k. absurd (none_first text at line lines k e))

  pub served_own_line : (c : Held) → has (drop (served_from file 0 (lines_in text) c).0 text) 10 ≡ true →
      for_program (command_of (up_to 10 (drop (served_from file 0 (lines_in text) c).0 text))) ≡ true
  served_own_line c h = served_stop (lines_in text) 0 c refl h

  pub served_left : (c : Held) → Every (λ line. for_program (command_of line) ≡ false) (lines_in text) →
      drop (served_from file 0 (lines_in text) c).0 text ≡ rest_of text
  served_left c others = served_up_to (lines_in text) 0 c refl others
