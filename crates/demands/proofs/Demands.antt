-- Every run of a valid plan, opened in lent memory, is as the demands say.
use mathlib.Core.Path.{◌≡◌, refl, sym, ap, subst, ◌∙◌}
use mathlib.Core.Logic.{◌↔◌}
use mathlib.Core.Bool.{true, false, not, true≢false}
use mathlib.Core.List.{List, [], ◌∷◌, ◌++◌, append_assoc, append-nil}
use Prim.Native.Nat.{ℕ, ◌+◌, ◌-◌, ◌≤◌, ◌<◌}
use native.Mathlib.Omega.{arith}
use lib.ListN.{length, get_or, drop}
use lib.Seq.{drop-nil, drop_at, take-append-le}
use Rattle.rules.specs.Lists.{has, times, Every}
use Rattle.rules.specs.TakingTokens as rules
use Rattle.rules.specs.Sources.{Source, Writes}
use Rattle.rules.specs.RunState.{Machine}
use Rattle.rules.specs.Choices.{Choice, Answer, Started, Finished, Refused, opened, answers, follow, ended}
use Rattle.rules.specs.RelatedSources.{with_source, map_machine, Follows}
use Rattle.rules.specs.PlainSheet.{closed, staying, plain_source}
use Rattle.rules.specs.Chains.{Blocked}
use Rattle.rules.specs.WholeRuns.{WorkersInRange, Sheet, WholeRun, final, Carries, with_workers}
use Rattle.rules.proofs.lists.Tests.{by_test}
use Rattle.rules.proofs.lists.Counting.{members}
use Rattle.rules.proofs.lists.Places.{place_of, at_place}
use Rattle.rules.proofs.sheet.PlainSheet.{sheet_writes, sheet_short, sheet_below, sheet_order, stays_or_written, staying_below, staying_distinct}
use Rattle.rules.proofs.sheet.Blocking.{stays_iff_blocked}
use Rattle.rules.proofs.sources.Following.{ended_map, writes_map, answers_map, follow_map}
use Rattle.rules.proofs.sources.Keeping.{follow_keeps}
use Rattle.rules.proofs.runs.WholeRuns.{whole_run, same_end, one_worker_accepted, one_worker_ends}
use Rattle.rules.proofs.runs.LineAnswers.{lines_answered}
use Rattle.plan.specs.Plan.{Plan, Valid}
use Rattle.tables.specs.State.{State, table_of, opened_tables}
use Rattle.tables.specs.Calls.{memory_source}
use Rattle.tables.specs.Matching.{Match, nobody, beyond}
use Rattle.tables.proofs.sources.Joint.{Joint, resting, rule_side, memory_side, sides_match, joint_source, rule_follows, memory_follows, joint_writes}
use Rattle.tables.proofs.sources.Beyond.{beyond_follows}
use Rattle.tables.proofs.sources.SameLength.{length_kept}
use Rattle.tables.proofs.sources.Refines.{opened_match}
use Rattle.loading.specs.Plans.{pipeline_of}
use Rattle.loading.specs.Layout.{zeros, laid_facts, laid_out}
use Rattle.demands.specs.Demands.{Came, IsStarted, Alike, numbers, order, begun, told, left, deferred_at_end, Shows, end_state, Demands}
use Rattle.demands.proofs.ValidPlans.{ranged, others, length_laid, whole, recorded, unmarked}
use Rattle.demands.proofs.Events.{every_came, came_token, started_came, finished_came}

-- two lists before another, where a third between them is empty
spread : (a b c : List ℕ) {e : List ℕ} → e ≡ [] → a ++ (b ++ c) ≡ (a ++ (b ++ e)) ++ c
spread a b c none = rw none (simp (append-nil, append_assoc))

module _ (p : Plan) (valid : Valid p) (m : List ℕ) where
  -- a token at a place of the sheet is on the sheet
  on_sheet : (k : ℕ) → k < length (order p) → has (order p) (get_or (order p) k 0) ≡ true
  on_sheet k h = omega (members, at_place (order p) k h)

  -- at opening the memory stands for the opened tables of the rules
  at_opening : Match p.tokens (numbers p) rules.opened (begun p m) nobody
  at_opening = opened_match p.tokens (numbers p) (laid_out p.records m) valid.tokens (whole valid m) (recorded valid m) (unmarked valid m)

  -- the rules' tables and the memory, together as one source
  abbrev pair : Source (Joint p.tokens (numbers p))
  pair = joint_source p.tokens (numbers p) (others valid)

  memory_side_lem : Follows memory_side pair memory_source
  memory_side_lem = memory_follows p.tokens (numbers p) (others valid)

  rule_side_lem : Follows rule_side pair (plain_source p.tokens (numbers p))
  rule_side_lem = rule_follows p.tokens (numbers p) (others valid)

  abbrev pair_begun : Joint p.tokens (numbers p)
  pair_begun = resting rules.opened (begun p m) at_opening

  -- they write down the plain sheet, and close where the sheet closes
  pair_writes : (y : State) × (q : Match p.tokens (numbers p) (closed p.tokens (numbers p)) y nobody) ×
      Writes pair pair_begun (order p) (resting (closed p.tokens (numbers p)) y q)
  pair_writes = joint_writes p.tokens (numbers p) (others valid) (sheet_writes p.tokens (numbers p) (others valid)) (begun p m) at_opening

  pub last : State
  last = pair_writes.0

  -- what writes the plain sheet has it for its sheet
  as_sheet : {X : Type 0} {S : Source X} {x z : X} → Writes S x (order p) z → Sheet S (pipeline_of p) x (order p) z
  as_sheet w = record {
    writes = w;
    fits = sheet_short p.tokens (numbers p) (others valid);
    known = λ k h. sheet_below p.tokens (numbers p) (others valid) (get_or (order p) k 0) (on_sheet k h);
  }

  pub memory_sheet : Sheet memory_source (pipeline_of p) (begun p m) (order p) last
  unfolding memory_side last
  memory_sheet = as_sheet (writes_map memory_side_lem pair_writes.2)

  module _ (workers : ℕ) (manned : WorkersInRange workers) (cs : List Choice) where
    run : WholeRun memory_source (pipeline_of p) workers (begun p m) cs (order p) last
    run = whole_run (ranged valid) manned memory_sheet cs

    -- demand 2
    abbrev pair_opened : Machine (Joint p.tokens (numbers p))
    pair_opened = opened (pipeline_of p) workers pair_begun

    pair_unspoiled : Every (λ a. a ≡ Refused 14 → ⊥) (answers pair pair_opened cs)
    pair_unspoiled = (whole_run (ranged valid) manned (as_sheet pair_writes.2) cs).never_spoiled

    same_answers : told p m workers cs ≡ answers (plain_source p.tokens (numbers p)) (opened (pipeline_of p) workers rules.opened) cs
    unfolding opened memory_side rule_side
    same_answers =
        answers_map memory_side_lem pair_opened cs pair_unspoiled
        ∙ sym (answers_map rule_side_lem pair_opened cs pair_unspoiled)

    -- two sides of one machine are alike
    sides_alike : (j : Machine (Joint p.tokens (numbers p))) → Alike p.tokens (numbers p) (map_machine rule_side j) (map_machine memory_side j)
    sides_alike j =
        let (out, matches) = sides_match j.source in
        record { rest = refl; out = out; tables = matches }

    same_machine : Alike p.tokens (numbers p)
        (follow (plain_source p.tokens (numbers p)) (opened (pipeline_of p) workers rules.opened) cs) (left p m workers cs)
    unfolding opened memory_side rule_side
    same_machine = rw (
      follow_map rule_side_lem pair_opened cs pair_unspoiled,
      follow_map memory_side_lem pair_opened cs pair_unspoiled,
    ) (sides_alike (follow pair pair_opened cs))

    -- each token after all that it deferred to
    in_order : (before after : List Answer) (l q t k w : ℕ) → told p m workers cs ≡ before ++ (Started l q t k w ∷ after) →
        get_or (pipeline_of p).serial q false ≡ true → (n : ℕ) → has (numbers p t) n ≡ true →
        (i : ℕ) × (j : ℕ) × (v : ℕ) × Came (Finished i q n j v) before
    in_order before after l q t k w e serial n listed =
        let (early, here) = every_came (Carries (pipeline_of p) (order p)) before (Started l q t k w) after e run.carries in
        let (j, less, n-at) = sheet_order p.tokens (numbers p) (others valid) k here.place n (rw here.token at listed) in
        let (i, u, v, (b, a, f)) = finished_came q j before (omega (arith, run.in_turn_lem before after l q t k w e serial j less)) in
        let (none, there) = every_came (Carries (pipeline_of p) (order p)) b (Finished i q u j v) a f early in
        (i, j, v, came_token (λ x. Finished i q x j v) (b, a, f) (there.token ∙ n-at))

    module _ (over : ended (left p m workers cs) ≡ true) where
      -- the deferred table at the end
      table_is : deferred_at_end p m workers cs ≡ staying p.tokens (numbers p)
      unfolding final staying last
      table_is = ap (λ (x : Machine State). table_of x.source.0 x.source.1) (run.end_state_lem over) ∙ pair_writes.1.table

      -- a token is started exactly if it is on the sheet
      started_written : (n : ℕ) → IsStarted n (told p m workers cs) → has (order p) n ≡ true
      started_written n (l, q, k, w, (before, after, e)) =
          let (none, here) = every_came (Carries (pipeline_of p) (order p)) before (Started l q n k w) after e run.carries in
          rw here.token (on_sheet k here.place)

      written_started : (n : ℕ) → has (order p) n ≡ true → IsStarted n (told p m workers cs)
      written_started n h =
          let (k, less, n-at) = place_of (order p) n h in
          let (l, t, w, (before, after, e)) = started_came 0 k (told p m workers cs) (omega (arith, (run.each_once over 0 k (ranged valid).pipes_some less).0)) in
          let (none, here) = every_came (Carries (pipeline_of p) (order p)) before (Started l 0 t k w) after e run.carries in
          (l, 0, k, w, came_token (λ u. Started l 0 u k w) (before, after, e) (here.token ∙ n-at))

      stays_unstarted : (n : ℕ) → (has (deferred_at_end p m workers cs) n ≡ true) ↔ ((n < p.tokens) × (IsStarted n (told p m workers cs) → ⊥))
      stays_unstarted n =
          subst (λ (t : List ℕ). (has t n ≡ true) ↔ ((n < p.tokens) × (IsStarted n (told p m workers cs) → ⊥))) (sym table_is) (
            (λ h. let low = staying_below p.tokens (numbers p) (others valid) n h in
                (low, λ s. true≢false (sym h ∙ stays_or_written p.tokens (numbers p) (others valid) n low ∙ ap not (started_written n s)))),
            λ (low, none). by_test (has (order p) n)
                (λ e. absurd (none (written_started n e)))
                (λ e. stays_or_written p.tokens (numbers p) (others valid) n low ∙ ap not e),
          )

      -- each of them once, and they are those that are blocked
      stays_once : (n : ℕ) → times n (deferred_at_end p m workers cs) ≤ 1
      stays_once n = subst (λ (t : List ℕ). times n t ≤ 1) (sym table_is) (staying_distinct p.tokens (numbers p) (others valid) n)

      stays_blocked : (n : ℕ) → n < p.tokens → (has (deferred_at_end p m workers cs) n ≡ true) ↔ Blocked p.tokens (numbers p) n
      stays_blocked n h = subst (λ (t : List ℕ). (has t n ≡ true) ↔ Blocked p.tokens (numbers p) n) (sym table_is)
          (stays_iff_blocked p.tokens (numbers p) (others valid) n h)

module _ (p : Plan) (valid : Valid p) where
  -- the opened memory is the same whatever was in it, but for what is beyond
  begun_beyond : (m : List ℕ) → begun p m ≡ beyond (drop 32768 m) (begun p [])
  unfolding laid_out
  begun_beyond m = ap {B = State} (λ (l : List ℕ). (opened_tables p.tokens, l)) (spread (laid_facts p.records) (zeros 12288) (drop 32768 m) (drop-nil 32768))

  -- a run keeps the length of the opened memory
  memory_lent : (m : List ℕ) (workers : ℕ) (cs : List Choice) → length (left p m workers cs).source.1 ≡ 32768 + (length m - 32768)
  unfolding opened
  memory_lent m workers cs = follow_keeps (length_kept _) (opened (pipeline_of p) workers (begun p m)) (length_laid valid m) cs

  module _ (m : List ℕ) (workers : ℕ) (manned : WorkersInRange workers) (cs : List Choice) where
    kept_beyond : left p m workers cs ≡ map_machine (beyond (drop 32768 m)) (left p [] workers cs)
    unfolding opened memory_side
    kept_beyond =
        let r : List ℕ = drop 32768 m in
        let more = follow_map (beyond_follows r p.tokens (numbers p) (others valid)) (pair_opened p valid [] workers manned cs) cs
        (pair_unspoiled p valid [] workers manned cs) in
        let plain = follow_map (memory_side_lem p valid []) (pair_opened p valid [] workers manned cs) cs (pair_unspoiled p valid [] workers manned cs) in
        ap (λ (x : State). follow memory_source (opened (pipeline_of p) workers x) cs) (begun_beyond m) ∙ more ∙ ap (map_machine (beyond r)) (sym plain)

    -- so the end state is that of a run with no other memory
    pub plain_end : end_state (left p m workers cs) ≡ end_state (left p [] workers cs)
    plain_end =
        let plain : Machine State = left p [] workers cs in
        let long : 32768 ≤ length plain.source.1 = (same_machine p valid [] workers manned cs).tables.whole in
        ap end_state kept_beyond
        ∙ ap (λ (l : List ℕ). with_workers 0 (with_source plain (plain.source.0, l))) (take-append-le 32768 plain.source.1 (drop 32768 m) long)

    plain_ended : ended (left p m workers cs) ≡ true → ended (left p [] workers cs) ≡ true
    plain_ended e = sym (ended_map (beyond (drop 32768 m)) (left p [] workers cs)) ∙ ap ended (sym kept_beyond) ∙ e

    -- what is lent beyond the first 32,768 numbers
    beyond_left : drop 32768 (left p m workers cs).source.1 ≡ drop 32768 m
    beyond_left =
        ap (λ (a : Machine State). drop 32768 a.source.1) kept_beyond
        ∙ drop_at (left p [] workers cs).source.1 (drop 32768 m) 32768 (omega (arith, memory_lent [] workers cs))

    shown : 32768 ≤ length m → Shows p workers m cs (told p m workers cs) (left p m workers cs) (ended (left p m workers cs))
    unfolding final
    shown enough =
        let r = run p valid m workers manned cs in
        record {
          over_is = refl;
          order_part = r.order_part;
          order_whole = r.order_whole;
          count = r.count;
          carries = r.carries;
          at_most_once = r.at_most_once;
          each_once = r.each_once;
          in_turn_lem = r.in_turn_lem;
          after_deferred = in_order p valid m workers manned cs;
          stays = stays_unstarted p valid m workers manned cs;
          stays_once = stays_once p valid m workers manned cs;
          stays_blocked = stays_blocked p valid m workers manned cs;
          end_state_lem = λ over. let e = r.end_state_lem over in e ∙ ap (final _ workers _) (sym (ap (λ a. a.source) e));
          goes_on = r.goes_on;
          one_line_each = r.one_line_each;
          line_alone = r.line_alone;
          never_spoiled = r.never_spoiled;
          answers_as_rules = same_answers p valid m workers manned cs;
          left_as_rules = same_machine p valid m workers manned cs;
          length_kept = memory_lent m workers cs ∙ omega arith;
          beyond_kept = beyond_left;
        }

  -- two ended runs, in whatever memory
  one_end : (m k : List ℕ) (w v : ℕ) → WorkersInRange w → WorkersInRange v → (cs ds : List Choice) → ended (left p m w cs) ≡ true → ended (left p k v ds) ≡ true →
      end_state (left p m w cs) ≡ end_state (left p k v ds)
  one_end m k w v mw mv cs ds e f =
      plain_end m w mw cs
      ∙ ap end_state (same_end (ranged valid) (memory_sheet p valid []) mw mv cs ds (plain_ended m w mw cs e) (plain_ended k v mv ds f) 0)
      ∙ sym (plain_end k v mv ds)

  -- the demands hold of every valid plan
  pub demands : Demands p
  demands = record {
    runs = λ m enough workers manned cs. shown m workers manned cs enough;
    whatever_lent = kept_beyond;
    same_end = one_end;
    one_worker_lem = λ m. (one_worker_accepted (ranged valid) (memory_sheet p valid m)).0;
    one_worker_stops = λ m. (one_worker_accepted (ranged valid) (memory_sheet p valid m)).1;
    one_worker_ends = λ m. one_worker_ends (ranged valid) (memory_sheet p valid m);
    lines_answered = λ m workers manned ls. lines_answered (ranged valid) manned (memory_sheet p valid m) ls;
  }
