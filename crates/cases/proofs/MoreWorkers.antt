-- The example of lines listed alone under other limits holds of the rules: it is computed.
use mathlib.Core.Path.{◌≡◌, ap, ◌∙◌}
use mathlib.Core.Bool.{false}
use mathlib.Core.List.{List, [], ◌∷◌}
use Prim.Native.Nat.{ℕ}
use Rattle.rules.specs.Lists.{within, every, keep, has, empty, table}
use Rattle.rules.specs.TakingTokens.{is_due, take_new, take_from, release}
use Rattle.rules.specs.TakingTokens as tables
use Rattle.rules.specs.RunState.{slot_at, put_slot, all_idle}
use Rattle.rules.specs.Ranges.{numbers_sound, is_idle, is_loaded, worker_sound, slot_sound, most_at, serial_sound}
use Rattle.rules.specs.Choices.{Choice, Answer, opened, opened_counter, tabled, move, start, start_first, start_later}
use Rattle.rules.specs.Choices.{finish, finish_first, finish_with, settle, fall, ended, movable, at_work}
use Rattle.rules.specs.WholeRuns.{with_workers}
use Rattle.rules.specs.MoreWorkers.{is_event, accepted_choices, without_refusals}
use Rattle.cases.specs.LinesAlone.{source, begun, by, chosen}
use Rattle.cases.specs.MoreWorkers.{told, strayed, told_from, Reuse}
use Rattle.cases.proofs.QuickRuns.{walked, counters_walked, quick_sound, quick_choose, quick_follow, quick_follow_lem, quick_answers, quick_answers_lem}

-- the answers, computed quickly
unfoldable pub quick : ℕ → List Choice → List Answer
quick workers = quick_answers source (begun false workers)

pub quick_told : (workers : ℕ) (cs : List Choice) → told workers cs ≡ quick workers cs
unfolding told quick
quick_told workers cs = quick_answers_lem source (begun false workers) cs

quick_from : (workers : ℕ) (cs : List Choice) →
    told_from workers cs ≡ quick_answers source (with_workers workers (quick_follow source (begun false 3) (by 2 0 ∷ []))) cs
unfolding told_from
quick_from workers cs =
    quick_answers_lem source _ cs ∙ ap (λ m. quick_answers source (with_workers workers m) cs) (quick_follow_lem source (begun false 3) (by 2 0 ∷ []))

pub reuse_holds : Reuse
unfolding quick quick_answers quick_follow quick_choose quick_sound counters_walked walked
    is_event accepted_choices tables.take take_from take_new release is_due keep has empty
    opened opened_counter tabled table move start start_first start_later finish finish_first finish_with settle
    fall ended movable at_work numbers_sound within is_idle is_loaded worker_sound slot_sound most_at serial_sound every slot_at put_slot all_idle
reuse_holds = record {
  two = quick_told 2 chosen;
  three = quick_told 3 chosen;
  most = quick_told 32 chosen;
  one_unknown = quick_told 1 _;
  one_busy = quick_told 1 _;
  strays = quick_told 2 strayed;
  accepted = ap (accepted_choices strayed) (quick_told 2 strayed);
  events = ap without_refusals (quick_told 2 strayed);
  again = quick_told 3 _;
  whole = quick_told 3 strayed;
  spoiled = quick_from 2 _;
  unspoiled = quick_from 3 _;
}
