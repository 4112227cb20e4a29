use Rattle.std.proofs.Common.{ap, ◌∙◌}
use Rattle.ground_types.specs.Publication.{fluent_rows}
use Rattle.point_rule.specs.Known.{known}
use Rattle.delay_revise.proofs.UnitRows.{simple_rows}
use Rattle.delay_revise.proofs.work.rows_of_simple.Goals as goal

pub returns-clause-rows : goal.returns-clause-rows
returns-clause-rows g c =
    let table = known c.args.cache.now.rows c.args.store.now in
    ap fluent_rows (rw (c.deref.ensures.value, c.deref-2.ensures.value) at c.in_ok-rows.ensures)
    ∙ simple_rows table c.args.opening c.args.initiate.now c.args.terminate.now
    c.in_ok-inits.inits.items c.in_ok-terms.terms.items c.args.count c.args.w c.args.q
    c.in_ok-inits.ensures.count c.in_ok-inits.ensures.points c.in_ok-terms.ensures.points
