-- `layout::lay_records` meets its contract.
use Rattle.std.proofs.Common.{sym, ◌∙◌, arith, rules, length-drop}
use borrow.Author.Tests.{eqb-true, eqb-false}
use Rattle.std.proofs.lemmas.List.{take_rest}
use Rattle.loading.proofs.memory_laid.RecordWalk.{left_first, first, none_left}
use Rattle.loading.proofs.layout.lay_records.Goals as goal

pub loop-rest-init : goal.loop-rest-init
loop-rest-init c = (search rules, left_first c.requires.spells)

pub split_at-requires : goal.split_at-requires
split_at-requires c =
    let f = first c.loop-rest.invariant.1 (eqb-false _ _ (sym c.loop-rest-test.ensures)) (c.from-token.ensures ∙ c.field_or_zero.ensures) c.field_or_zero-count.ensures in
    omega (arith, f.inside)

pub copy_fields-requires : goal.copy_fields-requires
copy_fields-requires c =
    let f = first c.loop-rest.invariant.1 (eqb-false _ _ (sym c.loop-rest-test.ensures)) (c.from-token.ensures ∙ c.field_or_zero.ensures) c.field_or_zero-count.ensures in
    let long = c.split_at.ensures.front_len in
    rw (take_rest c.split_at.result.0.now 2) (simp length-drop (omega (arith, f.room, long)))

pub bounds-mem-token : goal.bounds-mem-token
bounds-mem-token c =
    let f = first c.loop-rest.invariant.1 (eqb-false _ _ (sym c.loop-rest-test.ensures)) (c.from-token.ensures ∙ c.field_or_zero.ensures) c.field_or_zero-count.ensures in
    omega (arith, f.small)

pub overflow_add-position : goal.overflow_add-position
overflow_add-position c =
    let f = first c.loop-rest.invariant.1 (eqb-false _ _ (sym c.loop-rest-test.ensures)) (c.from-token.ensures ∙ c.field_or_zero.ensures) c.field_or_zero-count.ensures in
    omega (arith, f.room)

pub overflow_add-position-in-loop-rest : goal.overflow_add-position-in-loop-rest
overflow_add-position-in-loop-rest c =
    let f = first c.loop-rest.invariant.1 (eqb-false _ _ (sym c.loop-rest-test.ensures)) (c.from-token.ensures ∙ c.field_or_zero.ensures) c.field_or_zero-count.ensures in
    omega (arith, f.room)

pub loop-rest-preserved : goal.loop-rest-preserved
loop-rest-preserved c =
    let f = first c.loop-rest.invariant.1 (eqb-false _ _ (sym c.loop-rest-test.ensures)) (c.from-token.ensures ∙ c.field_or_zero.ensures) c.field_or_zero-count.ensures in
    let stored = rw take_rest at c.copy_fields.ensures in
    (search rules, rw (c.split_at.ensures.back, stored, c.split_at.ensures.front, c.from.ensures, c.from-in-loop-rest.ensures) f.next)

pub returns : goal.returns
returns c = none_left c.loop-rest.invariant.1 (eqb-true _ _ (sym c.loop-rest-test.ensures))
