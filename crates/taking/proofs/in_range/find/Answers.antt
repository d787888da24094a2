use Rattle.std.proofs.Common.{sym, refl, ap, ◌≡◌, ◌∙◌, take, arith, Ok}
use Rattle.tables.specs.Facts.{new_hold}
use Rattle.tables.specs.Taking.{find_of}
use Rattle.tables.proofs.code.CallLaws.{new_is}
use Rattle.tables.proofs.code.TakingLaws as laws
use Rattle.taking.proofs.Holds.{one_error, none_is, held_is}
use Rattle.taking.proofs.in_range.find.Goals as goal

pub loop-token-init : goal.loop-token-init
loop-token-init c = refl

pub returns-in_err-new_hold : goal.returns-in_err-new_hold
unfolding find_of
returns-in_err-new_hold c =
    let told : c.new_hold.result ≡ new_hold (take 20480 c.args.mem.now) c.args.count c.loop-token.token =
    c.new_hold.ensures ∙ new_is c.args.mem.now _ _ c.requires.lent_in_bounds (omega (arith, c.loop-token-test.true, c.requires.count_le_tokens.1)) in
    one_error c.from_residual.ensures.0 ∙ sym (laws.find_step _ _ _ c.loop-token.invariant c.loop-token-test.true told c.in_err-new_hold.was)

-- the answer about a token below N, of tables within their ranges
pub returns-then-is_none : goal.returns-then-is_none
unfolding find_of
returns-then-is_none c =
    let told : c.new_hold.result ≡ new_hold (take 20480 c.args.mem.now) c.args.count c.loop-token.token =
    c.new_hold.ensures ∙ new_is c.args.mem.now _ _ c.requires.lent_in_bounds (omega (arith, c.loop-token-test.true, c.requires.count_le_tokens.1)) in
    sym (laws.find_step _ _ _ c.loop-token.invariant c.loop-token-test.true told (c.in_ok-new_hold.was ∙ ap Ok (none_is c.is_none.ensures c.if-is_none.true)))

pub loop-token-preserved : goal.loop-token-preserved
loop-token-preserved c =
    let told : c.new_hold.result ≡ new_hold (take 20480 c.args.mem.now) c.args.count c.loop-token.token =
    c.new_hold.ensures ∙ new_is c.args.mem.now _ _ c.requires.lent_in_bounds (omega (arith, c.loop-token-test.true, c.requires.count_le_tokens.1)) in
    laws.find_step _ _ _ c.loop-token.invariant c.loop-token-test.true told c.in_ok-new_hold.was ∙ held_is _ _ _ _ c.is_none.ensures c.if-is_none.false

pub returns : goal.returns
unfolding find_of
returns c = laws.find_end _ _ _ c.loop-token.invariant c.loop-token-test.false
