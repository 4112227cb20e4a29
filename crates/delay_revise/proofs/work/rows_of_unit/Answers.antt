use Rattle.std.proofs.Common.{List, arith, ap, ◌∙◌, map}
use Rattle.ground_types.specs.Publication.{fluent_rows}
use Rattle.span_algebra.specs.declared.spans.Span.{Span}
use Rattle.simple_fluent.specs.Rows.{pairs}
use Rattle.point_rule.specs.Known.{known, HasRows}
use Rattle.delay_revise.proofs.ExprRows.{static_of, static_rows_are}
use Rattle.delay_revise.proofs.UnitRows.{simple_of, fluent_rows_are, event_row_is}
use Rattle.delay_revise.proofs.work.rows_of_unit.Goals as goal

pub rows_of_simple-requires-clause-simple : goal.rows_of_simple-requires-clause-simple
rows_of_simple-requires-clause-simple g c =
    rw (c.as_slice-initiate.ensures, c.as_slice-terminate.ensures)
    (simple_of c.args.program.now (HasRows c.args.cache.now.rows) _
    c.value_count-count.result c.args.unit.now.kind c.args.opening _ _ _ c.requires.opens
    c.requires.fits c.requires.rows c.in-Simple.is c.value_count-count.ensures)

pub returns-in_ok-rows-in-Simple-clause-rows : goal.returns-in_ok-rows-in-Simple-clause-rows
returns-in_ok-rows-in-Simple-clause-rows g c =
    let table = known c.args.cache.now.rows c.args.store.now in
    ap (λ (made : List (List Span)). fluent_rows (map pairs made)) c.of.ensures
    ∙ (rw (c.as_slice-initiate.ensures, c.as_slice-terminate.ensures) at
    c.in_ok-rows-in-Simple.ensures.rows)
    ∙ fluent_rows_are table c.args.unit.now.kind c.args.opening _ c.in-Simple.initiate
    c.in-Simple.terminate _ c.value_count-count.result c.args.w c.args.q
    c.in-Simple.is c.value_count-count.ensures

pub returns-in_ok-points-in-Derived-clause-rows : goal.returns-in_ok-points-in-Derived-clause-rows
returns-in_ok-points-in-Derived-clause-rows g c =
    let table = known c.args.cache.now.rows c.args.store.now in
    event_row_is table c.args.opening c.args.unit.now.kind c.in-Derived.rules c.as_slice.result.now
    c.in_ok-points-in-Derived.points _ c.args.w c.args.q
    c.requires.window c.in-Derived.is c.as_slice.ensures
    c.in_ok-points-in-Derived.ensures.rises c.in_ok-points-in-Derived.ensures.points

pub rows_of_exprs-requires-clause-rows : goal.rows_of_exprs-requires-clause-rows
rows_of_exprs-requires-clause-rows g c =
    let fit = static_of c.args.program.now c.args.cache.now.rows _ c.args.unit.now.kind
    c.in-Static.exprs c.requires.fits c.requires.size c.in-Static.is in
    rw c.as_slice-in-Static.ensures fit.rows

pub rows_of_exprs-requires-clause-members : goal.rows_of_exprs-requires-clause-members
rows_of_exprs-requires-clause-members g c =
    let fit = static_of c.args.program.now c.args.cache.now.rows _ c.args.unit.now.kind
    c.in-Static.exprs c.requires.fits c.requires.size c.in-Static.is in
    rw c.as_slice-in-Static.ensures fit.members

pub returns-in_ok-rows-in-Static-clause-rows : goal.returns-in_ok-rows-in-Static-clause-rows
returns-in_ok-rows-in-Static-clause-rows g c =
    let fit = static_of c.args.program.now c.args.cache.now.rows _ c.args.unit.now.kind
    c.in-Static.exprs c.requires.fits c.requires.size c.in-Static.is in
    ap (λ (made : List (List Span)). fluent_rows (map pairs made)) c.of-in-Static.ensures
    ∙ static_rows_are c.args.cache.now.rows c.args.store.now c.args.opening c.args.unit.now.kind
    c.in-Static.exprs
    c.as_slice-in-Static.result.now c.in_ok-rows-in-Static.rows.items _ c.args.w c.args.q
    c.in-Static.is fit.many c.as_slice-in-Static.ensures
    (c.in_ok-rows-in-Static.ensures c.args.w c.args.q (omega (arith, c.requires.window))
    c.requires.inside)
