-- An opening with rounding.
use Rattle.std.specs.Prelude.{Bool, List, Result, Ok, Err, ℕ, leb, replicate}
use Rattle.vocabulary.specs.Refusals.{number_of}
use Rattle.vocabulary.specs.declared.refusal.Refusal.{Refusal}
use Rattle.rules.specs.Lists.{must}
use Rattle.rules.specs.Rounding.{is_base, is_rounding_pipe, lent_fits, OpenedRounding}
use Rattle.rules.specs.Rounding as paper
use Rattle.rounding.specs.Roundings.{rounding_of}
use Rattle.rounding.specs.declared.Rounding.{Rounding}

-- the paper's number, or the state's three and the figures
abbrev pub opened_of : Result Rounding Refusal → List ℕ → OpenedRounding
opened_of (Ok r) figures = paper.Opens (rounding_of r) figures
opened_of (Err why) figures = paper.TurnedDown (number_of why)

-- what an opening returns, and the figures that it leaves: "after 9 in this order: 16 pipe absent or parallel, 17 base not 3 or 5, 18
-- cells or figures not N in number or a cell too large"; "the figures are cleared to 0 at opening". (In a plan, which has at most 16
-- pipes, it is `open_rounding` of the rules: proofs/laws/Openings.antt.)
unfoldable pub open_of : ℕ → ℕ → ℕ → List Bool → ℕ → List ℕ → List ℕ → Result Rounding Refusal × List ℕ
open_of pipe base pipes serial tokens cells figures =
    must (leb pipes 16) (Err Refusal.RoundingPipe, figures)
    (must (is_rounding_pipe pipes serial pipe) (Err Refusal.RoundingPipe, figures)
    (must (is_base base) (Err Refusal.Base, figures)
    (must (lent_fits tokens cells figures) (Err Refusal.Lent, figures)
    (Ok (record { pipe = record { 0 = pipe }; base = base; sum = 0 }), replicate tokens 0))))
