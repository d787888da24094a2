-- Whether a finish would pass, by the code's tests.
use Rattle.std.proofs.Common.{◌≡◌, refl, ◌∙◌, Bool, true, false, List, Result, Ok, Err, ℕ, ◌-◌, ◌<◌, ◌≤◌, take, arith}
use Rattle.std.specs.Result.{MatchResult}
use lib.Dec.{leb}
use borrow.Author.Tests.{leb-true, leb-false}
use Rattle.rules.proofs.lists.Tests.{by_test}
use Rattle.tables.specs.declared.Tables.{Tables}
use Rattle.tables.specs.declared.Tally.{Tally}
use Rattle.tables.specs.declared.Spoiled.{Spoiled}
use Rattle.tables.specs.Facts.{left_hold}
use Rattle.tables.specs.Releasing.{sifted_from, tally_of, release_of, passes}
use Rattle.tables.proofs.code.ReleasingLaws as laws

-- the queue has room for those that wake, where no record is bad
pub room_told : (t : Tables) (d : ℕ) (m : List ℕ) (inside : d < t.tokens) (most : t.end ≤ 4096) (x : Result Tally Spoiled) {b : Bool}
    → x ≡ tally_of (left_hold (take 20480 m) t.tokens d) (sifted_from true m 20480 d 0 t.held)
    → MatchResult x (λ w. b ≡ leb w.free (4096 - t.end)) (λ e. b ≡ false) → b ≡ passes (release_of t d m)
room_told t d m inside most (Err e) x-is told = told ∙ laws.told_broken _ (laws.release_bad t d m inside x-is refl).0
room_told t d m inside most (Ok w) x-is told =
    told
    ∙ by_test (leb w.free (4096 - t.end))
    (λ e. e ∙ laws.told_passed _ (laws.release_moved t d m inside x-is refl (omega (arith, leb-true w.free (4096 - t.end) e)) refl refl).0)
    (λ e. e ∙ laws.told_broken _ (laws.release_full t d m inside x-is refl (omega (arith, leb-false w.free (4096 - t.end) e))).0)
