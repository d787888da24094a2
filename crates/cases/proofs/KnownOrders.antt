-- Cases a to j hold of the rules: each row's outcome is the known one, by computation.
use mathlib.Core.Path.{◌≡◌, refl, ap, ◌∙◌}
use mathlib.Core.List.{List}
use Prim.Native.Nat.{ℕ}
use lib.ListN.{length, take}
use Rattle.rules.specs.Lists.{must, within, every, keep, has, empty, table, Every}
use Rattle.rules.specs.TakingTokens.{is_due, take_new, take_from, release, Tables}
use Rattle.rules.specs.TakingTokens as tables
use Rattle.rules.specs.RunState.{Machine, slot_at, put_slot, all_idle}
use Rattle.rules.specs.Ranges.{sound, numbers_sound, is_idle, is_loaded, worker_sound, slot_sound, most_at, counter_sound, serial_sound}
use Rattle.rules.specs.Choices.{Choice, opened, opened_counter, tabled, answers, choose, move, start, start_first, start_later}
use Rattle.rules.specs.Choices.{finish, finish_first, finish_with, settle, fall, ended, movable, at_work}
use Rattle.rules.specs.PlainSheet.{numbers_of, written, leaves, sheet, closed, staying, rows, on_line, plain_source}
use Rattle.rules.specs.WholeRuns.{one_worker}
use Rattle.cases.specs.KnownOrders.{Case, Outcome, cases, pipeline_of, outcome, told, ended_after}
use Rattle.rules.proofs.lists.EveryLaws.{every_agree, every_weaken}
use Rattle.cases.proofs.QuickRuns.{walked, counters_walked, quick_sound, quick_choose, quick_follow, quick_follow_lem}

-- the outcome, with the one-worker run followed quickly
quick_outcome : Case → Outcome
quick_outcome c =
    let order : List ℕ = sheet c.tokens (numbers_of c.records) in
    let choices : List Choice = one_worker (pipeline_of c) 0 (length order) in
    let end : Machine Tables = quick_follow (plain_source c.tokens (numbers_of c.records)) (opened (pipeline_of c) 1 tables.opened) choices in
    record {
      order = order;
      stays = staying c.tokens (numbers_of c.records);
      line0 = on_line 0 (rows c.lines 0 order);
      choices = must (ended end) 0 (length choices);
      events = take (length c.known.events) (told c order);
    }

outcome_is : (c : Case) → outcome c ≡ quick_outcome c
unfolding outcome quick_outcome ended_after
outcome_is c =
    let order : List ℕ = sheet c.tokens (numbers_of c.records) in
    let choices : List Choice = one_worker (pipeline_of c) 0 (length order) in
    ap (λ (m : Machine Tables). record {
      order = order;
      stays = staying c.tokens (numbers_of c.records);
      line0 = on_line 0 (rows c.lines 0 order);
      choices = must (ended m) 0 (length choices);
      events = take (length c.known.events) (told c order);
    }) (quick_follow_lem (plain_source c.tokens (numbers_of c.records)) (opened (pipeline_of c) 1 tables.opened) choices)

quick_hold : Every (λ c. quick_outcome c ≡ c.known) cases
unfolding quick_outcome told numbers_of sheet closed staying rows on_line written leaves tables.take take_from take_new release is_due keep has empty
    one_worker opened opened_counter tabled table answers choose move start start_first start_later finish finish_first finish_with settle
    fall ended movable at_work sound numbers_sound within is_idle is_loaded worker_sound slot_sound most_at counter_sound serial_sound every slot_at put_slot all_idle
    walked counters_walked quick_sound quick_choose quick_follow
quick_hold = every_agree quick_outcome (λ c. c.known) cases refl

pub cases_hold : Every (λ c. outcome c ≡ c.known) cases
cases_hold = every_weaken (λ c. quick_outcome c ≡ c.known) (λ c. outcome c ≡ c.known) (λ c h. outcome_is c ∙ h) cases quick_hold
