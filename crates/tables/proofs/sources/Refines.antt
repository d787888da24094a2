-- The tables in memory give the same tokens as the rules' tables.
use mathlib.Core.Path.{◌≡◌, refl, sym, subst}
use mathlib.Core.Bool.{false, true≢false}
use mathlib.Core.List.{List, []}
use Prim.Native.Nat.{ℕ, ◌<◌, ◌≤◌}
use native.Mathlib.Omega.{arith}
use lib.ListN.{length, take}
use lib.Seq.{slice_empty}
use Rattle.rules.specs.Lists.{has, times}
use Rattle.rules.specs.TakingTokens as rules
use Rattle.rules.specs.Sources.{Writes}
use Rattle.rules.specs.PlainSheet.{plain_source}
use Rattle.rules.proofs.sources.Following.{writes_map}
use Rattle.tables.specs.Facts.{standing_of}
use Rattle.tables.specs.State.{State, opened_tables}
use Rattle.tables.specs.Matching.{Recorded, Watched, Standing, Match, nobody}
use Rattle.tables.specs.Calls.{memory_source}
use Rattle.tables.proofs.sources.Joint.{memory_side, memory_follows, joint_writes}

module _ (tokens : ℕ) (numbers : ℕ → List ℕ) where
  -- what the rules' tables write down, the tables in memory write down
  pub refines : ((n : ℕ) → has (numbers n) n ≡ false) → {a z : rules.Tables} {ts : List ℕ} → Writes (plain_source tokens numbers) a ts z
      → (x : State) → Match tokens numbers a x nobody → (y : State) × Writes memory_source x ts y × Match tokens numbers z y nobody
  unfolding memory_side
  refines self w x p =
      let (y, q, both) = joint_writes tokens numbers self w x p in
      (y, writes_map (memory_follows tokens numbers self) both, q)

  -- at opening, with good records and every standing 0, the memory stands for the opened tables of the rules
  module _ (m : List ℕ) (few : tokens ≤ 4096) (whole : 32768 ≤ length m)
      (records : (n : ℕ) → n < tokens → Recorded (take 20480 m) n (numbers n)) (zeros : (n : ℕ) → standing_of (take 20480 m) n ≡ 0) where
    opened_standing : Standing numbers rules.opened (standing_of (take 20480 m)) nobody
    unfolding has times
    opened_standing =
        record {
          waiting = tt;
          marked = λ n. rw (zeros n);
          queued = λ n. rw (zeros n);
          once = λ n. omega arith;
          fresh = λ n l. zeros n;
          settled = λ n l x y o. absurd (omega arith);
          outside = λ n o. absurd (true≢false (sym o));
        }

    pub opened_match : Match tokens numbers rules.opened (opened_tables tokens, m) nobody
    opened_match =
        record {
          range = record { tokens = few; count = omega arith; queue = omega arith; end = omega arith; held = omega arith };
          whole = whole;
          size = refl;
          count = refl;
          room = omega arith;
          queue = slice_empty 28672 m;
          table = slice_empty 20480 m;
          watched = subst (Watched []) (sym (slice_empty 24576 m)) tt;
          records = records;
          standing = opened_standing;
        }

    -- so the whole sheet of the rules is written down from the opened memory
    pub opened_refines : ((n : ℕ) → has (numbers n) n ≡ false) → {z : rules.Tables} {ts : List ℕ} → Writes (plain_source tokens numbers) rules.opened ts z
        → (y : State) × Writes memory_source (opened_tables tokens, m) ts y × Match tokens numbers z y nobody
    opened_refines self w = refines self w (opened_tables tokens, m) opened_match
