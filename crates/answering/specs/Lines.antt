-- The lines of the console's answers, in texts.
use Rattle.std.specs.Prelude.{List, [], ◌∷◌, ℕ, Result, Ok, Err}
use Rattle.vocabulary.specs.Refusals.{number_of}
use Rattle.vocabulary.specs.declared.refusal.Refusal.{Refusal}
use Rattle.plan.specs.declared.trailer.Header.{Header}
use Rattle.rules.specs.Journals.{Verdict, Complete, CorrectSoFar, Wrong, NotOpened}
use Rattle.printing.specs.Texts.{line_texts, refusal_texts}

-- `P p l n r e`: pipes, lines, tokens, records, edition
unfoldable pub header_texts : Header → List (List ℕ)
header_texts h = line_texts (80 ∷ []) (h.pipes ∷ h.lines ∷ h.tokens ∷ h.records ∷ h.edition ∷ [])

-- of a plan file: its header, or `R n`
unfoldable pub reading_texts : Result Header Refusal → List (List ℕ)
reading_texts (Ok h) = header_texts h
reading_texts (Err why) = refusal_texts (number_of why)

-- of an opening: `A`, or `R n`
unfoldable pub opening_texts : Result (Unit {0}) Refusal → List (List ℕ)
opening_texts (Ok ok) = (65 ∷ 10 ∷ []) ∷ []
opening_texts (Err why) = refusal_texts (number_of why)

-- `wrong i n`: the index of the first wrong event, and its refusal's number
unfoldable pub wrong_texts : ℕ → ℕ → List (List ℕ)
wrong_texts i n = line_texts (119 ∷ 114 ∷ 111 ∷ 110 ∷ 103 ∷ []) (i ∷ n ∷ [])

-- of a journal: `complete`, `correct so far`, `wrong i n`, or `R n` of the opening
unfoldable pub marking_texts : Verdict → List (List ℕ)
marking_texts Complete = (99 ∷ 111 ∷ 109 ∷ 112 ∷ 108 ∷ 101 ∷ 116 ∷ 101 ∷ 10 ∷ []) ∷ []
marking_texts CorrectSoFar = (99 ∷ 111 ∷ 114 ∷ 114 ∷ 101 ∷ 99 ∷ 116 ∷ 32 ∷ 115 ∷ 111 ∷ 32 ∷ 102 ∷ 97 ∷ 114 ∷ 10 ∷ []) ∷ []
marking_texts (Wrong i n) = wrong_texts i n
marking_texts (NotOpened n) = refusal_texts n
