-- Every run of a valid plan with rounding, opened in lent memory, is as the rounding paper says.
use mathlib.Core.Path.{sym, ap, ◌∙◌}
use Rattle.rules.specs.Choices.{ended}
use Rattle.rules.proofs.sheet.PlainSheet.{sheet_distinct}
use Rattle.rules.proofs.rounding.RoundedRuns.{rounded_run}
use Rattle.rules.proofs.rounding.CarriedRuns.{carried_run, same_figures}
use Rattle.plan.specs.Plan.{Plan, Valid}
use Rattle.demands.specs.Demands.{numbers, end_state}
use Rattle.rounding_demands.specs.RoundedPlans.{RoundedDemands}
use Rattle.demands.proofs.ValidPlans.{ranged, others}
use Rattle.demands.proofs.Demands.{memory_sheet, demands}

pub rounded_demands : (p : Plan) → Valid p → RoundedDemands p
rounded_demands p valid = record {
  runs = λ m workers manned r opens lendings. (_, rounded_run (ranged valid) manned (memory_sheet p valid m) opens lendings);
  same_end = λ m k w v mw mv r q opens shuts ls ks e f.
      let a = (rounded_run (ranged valid) mw (memory_sheet p valid m) opens ls).machine_is in
      let b = (rounded_run (ranged valid) mv (memory_sheet p valid k) shuts ks).machine_is in
      ap end_state a ∙ (demands p valid).same_end m k w v mw mv _ _ (ap ended (sym a) ∙ e) (ap ended (sym b) ∙ f) ∙ sym (ap end_state b);
  carried = λ m workers manned r opens cells ls.
      carried_run (ranged valid) manned (memory_sheet p valid m) (sheet_distinct p.tokens (numbers p) (others valid)) opens cells ls;
  same_figures = λ m k w v mw mv r opens cells ls ks e f.
      same_figures (ranged valid) (sheet_distinct p.tokens (numbers p) (others valid)) opens cells
      (memory_sheet p valid m) (memory_sheet p valid k) mw mv ls ks e f;
}
