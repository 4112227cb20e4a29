use Rattle.std.proofs.Common.{◌≡◌, ◌∙◌, ℕ, Some, ap}
use Rattle.std.specs.Prelude.{slice_get, slice_set}
use Rattle.span_algebra.specs.declared.rows.UnitRows.{UnitRows}
use Rattle.layer_cache.specs.Rows.{Cached}
use Rattle.layer_cache.specs.Shapes.{shape, shapes}
use Rattle.layer_cache.proofs.Shaping.{shapes_put}
use Rattle.layer_cache.proofs.cache.Cache.put_row.Goals as goal

-- the same of the fields and of what they are seen as
put_inside : (inside now : Cached) (unit : ℕ) (put : UnitRows) → inside ≡ now
    → slice_get (shapes now.rows) unit ≡ Some (shape put)
    → shapes (slice_set inside.rows unit put) ≡ shapes inside.rows
put_inside inside now unit put view has =
    shapes_put inside.rows unit put
    (ap (λ (cache : Cached). slice_get (shapes cache.rows) unit) view ∙ has)

pub invariant_of-self : goal.invariant_of-self
invariant_of-self c =
    put_inside _ c.args.self.now c.args.unit c.args.put c.self.view_is c.requires
    ∙ c.self.invariant

pub returns-clause-shapes : goal.returns-clause-shapes
returns-clause-shapes c =
    put_inside _ c.args.self.now c.args.unit c.args.put c.self.view_is c.requires
    ∙ ap (λ (cache : Cached). shapes cache.rows) c.self.view_is
