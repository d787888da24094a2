use Rattle.std.proofs.Common.{◌≡◌, ◌+◌, ◌-◌, ◌≤◌, ◌∙◌, refl, sym, ap, slice_index_or, Bool, true, false, List, ℕ, Ok, arith}
use lib.Dec.{ltb}
use borrow.Author.Tests.{ltb-true, ltb-false}
use Rattle.std.specs.Bool.{then_some}
use Rattle.tables.specs.declared.Tables.{Tables}
use Rattle.tables.specs.Taking.{take_upto, offered_of}
use Rattle.tables.proofs.code.CallLaws as calls
use Rattle.tables.proofs.code.TakingLaws as laws
use Rattle.taking.proofs.Holds.{one_error}
use Rattle.taking.proofs.would_take.Goals as goal

-- a token, or none, by the test whether it is below N
offer_upto : (t : Tables) (m : List ℕ) (upto : ℕ) → t.held + (upto - t.count) ≤ 4096 → (b : Bool) → b ≡ ltb upto t.tokens
    → Ok (then_some b upto) ≡ offered_of (take_upto t m (Ok upto))
offer_upto t m upto room true e = laws.offer_token t m upto room (ltb-true upto t.tokens (sym e))
offer_upto t m upto room false e = laws.offer_none t m upto room (ltb-false upto t.tokens (sym e))

pub returns-then-not-sound : goal.returns-then-not-sound
returns-then-not-sound c = calls.offers_none c.args.t c.args.mem.now c.sound.ensures c.if-not-sound.true

pub bounds-mem-from : goal.bounds-mem-from
bounds-mem-from c =
    let ok = calls.in_range c.args.t c.args.mem.now c.sound.ensures c.if-not-sound.false in omega (arith, c.from.ensures, c.if-t.true, ok.0.end, ok.1)

pub returns-then-token-t : goal.returns-then-token-t
returns-then-token-t c =
    calls.offers c.args.t c.args.mem.now c.sound.ensures c.if-not-sound.false
    (laws.offer_ready c.args.t c.args.mem.now (ap (λ k. slice_index_or c.args.mem.now (28672 + k) 0) c.from.ensures) c.if-t.true c.if-token-t.true)

pub returns-else-token-t : goal.returns-else-token-t
returns-else-token-t c =
    calls.offers c.args.t c.args.mem.now c.sound.ensures c.if-not-sound.false
    (laws.offer_bad c.args.t c.args.mem.now (ap (λ k. slice_index_or c.args.mem.now (28672 + k) 0) c.from.ensures) c.if-t.true c.if-token-t.false)

pub find-requires-clause-lent_in_bounds : goal.find-requires-clause-lent_in_bounds
find-requires-clause-lent_in_bounds c = (calls.in_range c.args.t c.args.mem.now c.sound.ensures c.if-not-sound.false).1

pub find-requires-clause-count_le_tokens : goal.find-requires-clause-count_le_tokens
find-requires-clause-count_le_tokens c =
    let ok = (calls.in_range c.args.t c.args.mem.now c.sound.ensures c.if-not-sound.false).0 in (ok.count, ok.tokens)

pub returns-in_err-upto : goal.returns-in_err-upto
returns-in_err-upto c =
    one_error c.from_residual.ensures.0
    ∙ calls.offers c.args.t c.args.mem.now c.sound.ensures c.if-not-sound.false
    (laws.offer_new c.args.t c.args.mem.now c.if-t.false c.find.ensures c.in_err-upto.was (laws.offer_unknown c.args.t c.args.mem.now))

pub overflow_sub-upto : goal.overflow_sub-upto
overflow_sub-upto c =
    (laws.found_within _ _ _ (calls.in_range c.args.t c.args.mem.now c.sound.ensures c.if-not-sound.false).0.count c.find.ensures c.in_ok-upto.was).0

pub overflow_add-t : goal.overflow_add-t
overflow_add-t c =
    let ok = (calls.in_range c.args.t c.args.mem.now c.sound.ensures c.if-not-sound.false).0 in
    omega (arith, ok.tokens, ok.held, laws.found_within _ _ _ ok.count c.find.ensures c.in_ok-upto.was)

pub returns-then-t-upto-gt-TOKENS : goal.returns-then-t-upto-gt-TOKENS
returns-then-t-upto-gt-TOKENS c =
    calls.offers c.args.t c.args.mem.now c.sound.ensures c.if-not-sound.false
    (laws.offer_new c.args.t c.args.mem.now c.if-t.false c.find.ensures c.in_ok-upto.was
    (laws.offer_full c.args.t c.args.mem.now _ c.if-t-upto-gt-TOKENS.true))

pub returns : goal.returns
returns c =
    rw c.then_some.ensures
    (calls.offers c.args.t c.args.mem.now c.sound.ensures c.if-not-sound.false
    (laws.offer_new c.args.t c.args.mem.now c.if-t.false c.find.ensures c.in_ok-upto.was
    (offer_upto c.args.t c.args.mem.now c.in_ok-upto.upto c.if-t-upto-gt-TOKENS.false _ refl)))
