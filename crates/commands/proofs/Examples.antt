-- Some lines and what they ask for, computed from the definitions.
use mathlib.Core.Path.{◌≡◌, refl}
use mathlib.Core.List.{List, [], ◌∷◌, ◌++◌, map}
use Prim.Native.Nat.{ℕ}
use Rattle.rules.specs.Lists.{has, within}
use Rattle.words.specs.Words.{up_to, past, same, words_in}
use Rattle.words.specs.Numbers.{digits, value_from, number_of}
use Rattle.commands.specs.Commands.{figures_word, sum_word, ended_word, quit_word, plan_word, open_word, choose_word, offer_word, take_word, mark_word, alone_of, is_path, plan_of, plain_of, rounded_of, open_of, choice_in, stop_in, event_of, event_in, mark_of, arguments_of, asked_of, command_of}
use Rattle.commands.specs.Arguments.{space, pair_in, step_in}
use Rattle.vocabulary.specs.declared.event.Event.{Event}
use Rattle.commands.specs.declared.Command.{Command}
use Rattle.commands.specs.declared.Command.TheVariants.{Plan, Open, OpenRounded, Choose, Offer, Take, Mark, Figures, Sum, Ended, Quit, Unknown}

abbrev lines : List (List ℕ)
lines =
    ended_word ∷
    quit_word ∷
    (ended_word ++ space ∷ []) ∷
    (plan_word ++ space ∷ 97 ∷ 32 ∷ 98 ∷ []) ∷
    (plan_word ++ space ∷ []) ∷
    plan_word ∷
    (open_word ++ space ∷ 51 ∷ 51 ∷ []) ∷
    (open_word ++ space ∷ 48 ∷ 48 ∷ 51 ∷ 51 ∷ []) ∷
    (open_word ++ space ∷ 45 ∷ 51 ∷ []) ∷
    (open_word ++ space ∷ 51 ∷ space ∷ []) ∷
    (open_word ++ space ∷ 50 ∷ space ∷ 49 ∷ space ∷ 54 ∷ 53 ∷ 53 ∷ 51 ∷ 53 ∷ space ∷ 97 ∷ space ∷ 98 ∷ []) ∷
    (open_word ++ space ∷ 50 ∷ space ∷ 49 ∷ space ∷ 54 ∷ 53 ∷ 53 ∷ 51 ∷ 54 ∷ space ∷ 97 ∷ space ∷ 98 ∷ []) ∷
    (open_word ++ space ∷ 50 ∷ space ∷ 49 ∷ space ∷ 53 ∷ space ∷ []) ∷
    (open_word ++ space ∷ 50 ∷ space ∷ 49 ∷ space ∷ 53 ∷ []) ∷
    (open_word ++ space ∷ 50 ∷ space ∷ 49 ∷ []) ∷
    (open_word ++ space ∷ 50 ∷ space ∷ space ∷ 53 ∷ space ∷ 97 ∷ []) ∷
    (choose_word ++ space ∷ 50 ∷ space ∷ 54 ∷ 53 ∷ 53 ∷ 51 ∷ 53 ∷ []) ∷
    (choose_word ++ space ∷ 50 ∷ space ∷ 54 ∷ 53 ∷ 53 ∷ 51 ∷ 54 ∷ []) ∷
    (choose_word ++ space ∷ 51 ∷ []) ∷
    (choose_word ++ space ∷ 51 ∷ space ∷ []) ∷
    (choose_word ++ space ∷ space ∷ 51 ∷ []) ∷
    (choose_word ++ space ∷ 49 ∷ space ∷ 50 ∷ space ∷ 51 ∷ []) ∷
    (offer_word ++ space ∷ 49 ∷ space ∷ 50 ∷ []) ∷
    (take_word ++ space ∷ 83 ∷ space ∷ 49 ∷ space ∷ 50 ∷ space ∷ 51 ∷ space ∷ 52 ∷ space ∷ 53 ∷ []) ∷
    (take_word ++ space ∷ 70 ∷ space ∷ 49 ∷ space ∷ 50 ∷ space ∷ 51 ∷ space ∷ 52 ∷ space ∷ 53 ∷ []) ∷
    (take_word ++ space ∷ 88 ∷ space ∷ 49 ∷ space ∷ 50 ∷ []) ∷
    (take_word ++ space ∷ 88 ∷ space ∷ 49 ∷ []) ∷
    (take_word ++ space ∷ 83 ∷ space ∷ 49 ∷ space ∷ 50 ∷ space ∷ 51 ∷ space ∷ 52 ∷ []) ∷
    (take_word ++ space ∷ 82 ∷ space ∷ 49 ∷ space ∷ 50 ∷ []) ∷
    (mark_word ++ space ∷ 51 ∷ 50 ∷ space ∷ 97 ∷ space ∷ 98 ∷ []) ∷
    (mark_word ++ space ∷ 51 ∷ 50 ∷ space ∷ []) ∷
    (mark_word ++ space ∷ 51 ∷ 50 ∷ []) ∷
    (mark_word ++ space ∷ 97 ∷ space ∷ 97 ∷ []) ∷
    figures_word ∷
    (figures_word ++ space ∷ []) ∷
    sum_word ∷
    (sum_word ++ space ∷ 51 ∷ []) ∷
    (space ∷ ended_word) ∷
    [] ∷
    []

abbrev asked : List Command
asked =
    Ended ∷
    Quit ∷
    Unknown ∷
    Plan 5 ∷
    Unknown ∷
    Unknown ∷
    Open 33 ∷
    Open 33 ∷
    Unknown ∷
    Unknown ∷
    OpenRounded (record { workers = 2; pipe = record { 0 = 1 }; base = 65535; start = 15 }) ∷
    Unknown ∷
    Unknown ∷
    Unknown ∷
    Unknown ∷
    Unknown ∷
    Choose (record { worker = record { 0 = 2 }; line = record { 0 = 65535 } }) ∷
    Unknown ∷
    Unknown ∷
    Unknown ∷
    Unknown ∷
    Unknown ∷
    Offer (record { worker = record { 0 = 1 }; line = record { 0 = 2 } }) ∷
    Take (Event.Started (record { line = record { 0 = 1 }; pipe = record { 0 = 2 }; token = record { 0 = 3 }; place = record { 0 = 4 }; worker = record { 0 = 5 } })) ∷
    Take (Event.Finished (record { line = record { 0 = 1 }; pipe = record { 0 = 2 }; token = record { 0 = 3 }; place = record { 0 = 4 }; worker = record { 0 = 5 } })) ∷
    Take (Event.Stopped (record { line = record { 0 = 1 }; worker = record { 0 = 2 } })) ∷
    Unknown ∷
    Unknown ∷
    Unknown ∷
    Mark (record { workers = 32; start = 8 }) ∷
    Unknown ∷
    Unknown ∷
    Unknown ∷
    Figures ∷
    Unknown ∷
    Sum ∷
    Unknown ∷
    Unknown ∷
    Unknown ∷
    []

pub some_lines : map command_of lines ≡ asked
unfolding command_of asked_of alone_of arguments_of is_path plan_of plain_of rounded_of open_of choice_in stop_in event_of event_in mark_of pair_in step_in up_to past same words_in has within digits value_from number_of
some_lines = refl
