use Rattle.layer_cache.specs.Shapes.{emptied}
use Rattle.layer_cache.proofs.Emptying.{mapped_more}
use Rattle.layer_cache.proofs.cache.clear_rows.Goals as goal

pub loop-unit-preserved : goal.loop-unit-preserved
loop-unit-preserved c =
    mapped_more emptied c.args.rows.now c.loop-unit.rows c.loop-unit.unit-index c.empty.new.rows
    c.unit-item.result c.loop-unit-test.true c.loop-unit.invariant
    c.empty.ensures
