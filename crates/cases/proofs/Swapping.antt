-- Two choices in either order, and what fails from states that no run leaves: it is computed.
use mathlib.Core.Path.{◌≡◌, ap, ◌∙◌}
use mathlib.Core.List.{List, [], ◌∷◌}
use Rattle.rules.specs.Lists.{within, every, keep, has, empty, table}
use Rattle.rules.specs.TakingTokens.{Tables, is_due, take_new, take_from, release}
use Rattle.rules.specs.TakingTokens as tables
use Rattle.rules.specs.PlainSheet.{numbers_of}
use Rattle.rules.specs.RunState.{Machine, slot_at, put_slot, all_idle}
use Rattle.rules.specs.Ranges.{numbers_sound, is_idle, is_loaded, worker_sound, slot_sound, most_at, serial_sound}
use Rattle.rules.specs.Choices.{Choice, opened, opened_counter, tabled, move, start, start_first, start_later}
use Rattle.rules.specs.Choices.{finish, finish_first, finish_with, settle, fall, ended, movable, at_work}
use Rattle.cases.specs.LinesAlone.{by}
use Rattle.cases.specs.Swapping.{source_of, begun, out_of_turn, records, starting, running, finishing, ready_after, Swaps}
use Rattle.cases.proofs.QuickRuns.{walked, counters_walked, quick_sound, quick_choose, quick_follow, quick_follow_lem, quick_answers, quick_answers_lem}
use Rattle.cases.proofs.MoreWorkers.{quick, quick_told}

quick_starting : (cs : List Choice) → starting cs ≡ quick_answers (source_of 2 []) (out_of_turn (begun 2)) cs
unfolding starting
quick_starting cs = quick_answers_lem (source_of 2 []) (out_of_turn (begun 2)) cs

-- the run with two lines at pipe 0
quick_running : Machine Tables
quick_running = quick_follow (source_of 4 records) (out_of_turn (quick_follow (source_of 4 records) (begun 4) (by 0 0 ∷ []))) (by 1 1 ∷ [])

quick_running_lem : running ≡ quick_running
unfolding running quick_running
quick_running_lem =
    quick_follow_lem (source_of 4 records) _ (by 1 1 ∷ [])
    ∙ ap (λ m. quick_follow (source_of 4 records) (out_of_turn m) (by 1 1 ∷ [])) (quick_follow_lem (source_of 4 records) (begun 4) (by 0 0 ∷ []))

quick_finishing : (cs : List Choice) → finishing cs ≡ quick_answers (source_of 4 records) quick_running cs
unfolding finishing
quick_finishing cs = quick_answers_lem (source_of 4 records) running cs ∙ ap (λ m. quick_answers (source_of 4 records) m cs) quick_running_lem

quick_ready : (cs : List Choice) → ready_after cs ≡ (quick_follow (source_of 4 records) quick_running cs).source.ready
unfolding ready_after
quick_ready cs = ap (λ (m : Machine Tables). m.source.ready)
    (quick_follow_lem (source_of 4 records) running cs ∙ ap (λ m. quick_follow (source_of 4 records) m cs) quick_running_lem)

pub swaps_hold : Swaps
unfolding quick quick_running quick_answers quick_follow quick_choose quick_sound counters_walked walked
    tables.take take_from take_new release is_due keep has empty numbers_of
    opened opened_counter tabled table move start start_first start_later finish finish_first finish_with settle
    fall ended movable at_work numbers_sound within is_idle is_loaded worker_sound slot_sound most_at serial_sound every slot_at put_slot all_idle
swaps_hold = record {
  swapped = quick_told 2 _;
  starts = quick_starting _;
  starts_swapped = quick_starting _;
  finishes = quick_finishing _;
  finishes_swapped = quick_finishing _;
  ready = quick_ready _;
  ready_swapped = quick_ready _;
}
