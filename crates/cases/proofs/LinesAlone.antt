-- The example of lines listed alone holds of the rules: it is computed.
use mathlib.Core.Path.{◌≡◌, ap, ◌∙◌}
use mathlib.Core.List.{List}
use mathlib.Core.Bool.{Bool, true, false}
use Rattle.rules.specs.Lists.{within, every, keep, has, empty, table}
use Rattle.rules.specs.TakingTokens.{is_due, take_new, take_from, release}
use Rattle.rules.specs.TakingTokens as tables
use Rattle.rules.specs.RunState.{slot_at, put_slot, all_idle}
use Rattle.rules.specs.Ranges.{numbers_sound, is_idle, is_loaded, worker_sound, slot_sound, most_at, serial_sound}
use Rattle.rules.specs.Choices.{Answer, opened, opened_counter, tabled, move, start, start_first, start_later}
use Rattle.rules.specs.Choices.{finish, finish_first, finish_with, settle, fall, ended, movable, at_work}
use Rattle.rules.specs.Workers.{first_idle, worker_for}
use Rattle.cases.specs.LinesAlone.{lines, source, begun, practised, answered, Overtaking}
use Rattle.cases.proofs.QuickRuns.{walked, counters_walked, quick_sound, quick_choose, quick_answers, quick_answers_lem, quick_choices, quick_choices_lem}

-- the answers, computed quickly
quick_answered : Bool → List Answer
quick_answered serial = quick_answers source (begun serial 2) (quick_choices source (begun serial 2) lines)

quick_practised : (serial : Bool) → practised serial ≡ quick_choices source (begun serial 2) lines
unfolding practised
quick_practised serial = quick_choices_lem source (begun serial 2) lines

quick_answered_lem : (serial : Bool) → answered serial ≡ quick_answered serial
unfolding answered quick_answered
quick_answered_lem serial = quick_answers_lem source (begun serial 2) (practised serial) ∙ ap (quick_answers source (begun serial 2)) (quick_practised serial)

pub overtaking_holds : Overtaking
unfolding quick_answered quick_choices quick_answers quick_choose quick_sound counters_walked walked worker_for first_idle
    tables.take take_from take_new release is_due keep has empty
    opened opened_counter tabled table move start start_first start_later finish finish_first finish_with settle
    fall ended movable at_work numbers_sound within is_idle is_loaded worker_sound slot_sound most_at serial_sound every slot_at put_slot all_idle
overtaking_holds = record { named = quick_practised false; parallel = quick_answered_lem false; serial = quick_answered_lem true }
