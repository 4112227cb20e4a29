use Rattle.std.proofs.Common.{◌∙◌, ap}
use Rattle.layer_cache.specs.Shapes.{shapes}
use Rattle.layer_cache.proofs.Shaping.{shapes_of_empty}
use Rattle.layer_cache.proofs.cache.Cache.new.Goals as goal

pub returns-clause-shapes : goal.returns-clause-shapes
returns-clause-shapes c = ap shapes c.in_ok-rows.ensures ∙ shapes_of_empty c.args.program.now
