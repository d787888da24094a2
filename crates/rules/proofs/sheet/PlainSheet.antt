-- The plain sheet (01): it closes, each token below N is then on it or stays deferred, and each comes after all that it lists.
use mathlib.Core.Path.{◌≡◌, sym, ap, ◌∙◌}
use mathlib.Core.Bool.{true, false, not, true≢false}
use mathlib.Core.List.{List, [], ◌∷◌, ◌++◌, append-nil, append_assoc}
use Prim.Native.Nat.{ℕ, zero, suc, ◌+◌, ◌-◌, ◌≤◌, ◌<◌, min}
use native.Mathlib.Omega.{arith}
use lib.ListN.{length, get_or, take, length-take}
use lib.Seq.{get_or-take}
use Rattle.rules.specs.Lists.{has, times}
use Rattle.rules.specs.TakingTokens.{opened}
use Rattle.rules.specs.Sources.{Writes}
use Rattle.rules.specs.PlainSheet.{sheet, closed, staying, plain_source}
use Rattle.rules.proofs.lists.Tests.{by_test}
use Rattle.rules.proofs.lists.Counting.{members}
use Rattle.rules.proofs.lists.EveryLaws.{every_find}
use Rattle.rules.proofs.lists.Places.{place_of}
use Rattle.rules.proofs.sheet.Taking.{AllIn, Entry, Sound, some_unfinished}
use Rattle.rules.proofs.sheet.Closing.{InOrder, Closes, closes_from, placed_few}

-- in an ordered list, what the k-th token lists is among the tokens before it
order_at : (numbers : ℕ → List ℕ) (done l : List ℕ) → InOrder numbers done l → (k : ℕ) → k < length l →
    AllIn numbers (done ++ take k l) (get_or l k 0)
order_at numbers done [] o k h = absurd (omega arith)
order_at numbers done (n ∷ l) o zero h = rw append-nil o.0
order_at numbers done (n ∷ l) o (suc k) h = rw append_assoc at (order_at numbers (done ++ (n ∷ [])) l o.1 k (omega arith))

-- N tokens, of which none lists itself
module _ (tokens : ℕ) (numbers : ℕ → List ℕ) (others : (n : ℕ) → has (numbers n) n ≡ false) where
  opened_sound : Sound tokens numbers [] [] opened
  unfolding times has
  opened_sound = record { within = omega arith; counted = λ n. omega arith; freed = λ n h. absurd (true≢false (sym h)); waiting = tt }

  closes : Closes tokens numbers [] opened (sheet tokens numbers) (closed tokens numbers)
  unfolding sheet closed
  closes = closes_from tokens numbers others (suc tokens) [] opened opened_sound (omega arith)

  -- the sheet closes: its tokens are written down one after the other, and then no token is ready and none is new
  pub sheet_writes : Writes (plain_source tokens numbers) opened (sheet tokens numbers) (closed tokens numbers)
  sheet_writes = closes.writes

  pub none_new : (closed tokens numbers).count ≡ tokens
  none_new = closes.none_new

  pub none_ready : (closed tokens numbers).ready ≡ []
  none_ready = closes.none_ready

  -- M is at most N
  pub sheet_short : length (sheet tokens numbers) ≤ tokens
  sheet_short = placed_few tokens numbers closes.sound

  -- a token below N comes once, on the sheet or among those that stay deferred; no other number comes
  pub once : (n : ℕ) → times n (sheet tokens numbers) + times n (staying tokens numbers) ≡ min 1 (tokens - n)
  unfolding staying times
  once n = omega (arith, closes.sound.counted n, none_new, ap (times n) none_ready)

  pub sheet_distinct : (n : ℕ) → times n (sheet tokens numbers) ≤ 1
  sheet_distinct n = omega (arith, once n)

  pub sheet_below : (n : ℕ) → has (sheet tokens numbers) n ≡ true → n < tokens
  sheet_below n h = omega (members, once n)

  pub staying_distinct : (n : ℕ) → times n (staying tokens numbers) ≤ 1
  staying_distinct n = omega (arith, once n)

  pub staying_below : (n : ℕ) → has (staying tokens numbers) n ≡ true → n < tokens
  staying_below n h = omega (members, once n)

  -- a token below N stays deferred exactly if it is not on the sheet
  pub stays_or_written : (n : ℕ) → n < tokens → has (staying tokens numbers) n ≡ not (has (sheet tokens numbers) n)
  stays_or_written n h = by_test (has (sheet tokens numbers) n)
      (λ e. rw e (omega (members, once n)))
      (λ e. rw e (omega (members, once n)))

  -- each number that the k-th token lists is the j-th token for some j below k
  pub sheet_order : (k : ℕ) → k < length (sheet tokens numbers) → (m : ℕ) → has (numbers (get_or (sheet tokens numbers) k 0)) m ≡ true →
      (j : ℕ) × (j < k) × (get_or (sheet tokens numbers) j 0 ≡ m)
  sheet_order k h m listed =
      let (j, small, at) = place_of (take k (sheet tokens numbers)) m (order_at numbers [] (sheet tokens numbers) closes.ordered k h m listed) in
      let before : j < k = omega (arith, length-take k (sheet tokens numbers)) in
      (j, before, sym (get_or-take k (sheet tokens numbers) j 0 before) ∙ at)

  -- a token that stays deferred lists a number that is not on the sheet
  pub waits_for : (n : ℕ) → has (staying tokens numbers) n ≡ true →
      (m : ℕ) × (has (numbers n) m ≡ true) × (has (sheet tokens numbers) m ≡ false)
  unfolding staying
  waits_for n h =
      let (a, w, e) = every_find (Entry numbers (sheet tokens numbers)) (λ h. h.token) n (closed tokens numbers).deferred closes.sound.waiting h in
      rw e at (some_unfinished numbers (sheet tokens numbers) a w.0 w.1)
