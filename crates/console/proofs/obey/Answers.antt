use Rattle.std.proofs.Common.{refl, sym, ◌∙◌, rules}
use Rattle.commands.proofs.Paths.{plan_within, rounding_within, mark_within}
use Rattle.console.specs.Turns.{own_plan, own_opening, own_mark}
use Rattle.console.proofs.obey.Goals as goal

pub slice_bounds-take_plan-count : goal.slice_bounds-take_plan-count
slice_bounds-take_plan-count c = plan_within c.args.line.now (sym c.parse.ensures ∙ c.in-Plan.is)

pub slice_bounds-take_plan-start : goal.slice_bounds-take_plan-start
slice_bounds-take_plan-start c = let starts = plan_within c.args.line.now (sym c.parse.ensures ∙ c.in-Plan.is) in search rules

pub slice_bounds-take_cells-count : goal.slice_bounds-take_cells-count
slice_bounds-take_cells-count c = rounding_within c.args.line.now (sym c.parse.ensures ∙ c.in-OpenRounded.is)

pub slice_bounds-take_cells-start : goal.slice_bounds-take_cells-start
slice_bounds-take_cells-start c = let starts = rounding_within c.args.line.now (sym c.parse.ensures ∙ c.in-OpenRounded.is) in search rules

pub slice_bounds-take_journal-count : goal.slice_bounds-take_journal-count
slice_bounds-take_journal-count c = mark_within c.args.line.now (sym c.parse.ensures ∙ c.in-Mark.is)

pub slice_bounds-take_journal-start : goal.slice_bounds-take_journal-start
slice_bounds-take_journal-start c = let starts = mark_within c.args.line.now (sym c.parse.ensures ∙ c.in-Mark.is) in search rules

pub returns-in-Plan-clause-obeys : goal.returns-in-Plan-clause-obeys
returns-in-Plan-clause-obeys c = own_plan (sym c.parse.ensures ∙ c.in-Plan.is) c.take_plan.ensures refl

pub returns-in-OpenRounded-clause-obeys : goal.returns-in-OpenRounded-clause-obeys
returns-in-OpenRounded-clause-obeys c = own_opening (sym c.parse.ensures ∙ c.in-OpenRounded.is) c.take_cells.ensures refl

pub returns-in-Mark-clause-obeys : goal.returns-in-Mark-clause-obeys
returns-in-Mark-clause-obeys c = own_mark (sym c.parse.ensures ∙ c.in-Mark.is) c.take_journal.ensures refl refl
