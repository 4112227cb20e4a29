use Rattle.std.proofs.Common.{List, length, ◌∙◌, ap, sym}
use Rattle.std.proofs.lemmas.List.{with_items_is, length-map}
use Rattle.layer_cache.specs.Shapes.{emptied}
use Rattle.span_algebra.specs.declared.rows.UnitRows.{UnitRows}
use Rattle.layer_cache.specs.Shapes.{shapes}
use Rattle.layer_cache.proofs.Shaping.{shapes_cleared}
use Rattle.layer_cache.proofs.cache.Cache.clear.Goals as goal

pub invariant_of-self : goal.invariant_of-self
invariant_of-self c =
    ap (λ (rows : List UnitRows). shapes rows)
    (with_items_is c.self.inside.rows c.clear_rows.new.rows
    (ap (λ (rows : List UnitRows). length rows) c.clear_rows.ensures
    ∙ length-map c.deref_mut.result.now emptied
    ∙ ap (λ (rows : List UnitRows). length rows) c.deref_mut.ensures.value
    ∙ sym c.self.inside.rows.ok.0)
    ∙ c.clear_rows.ensures)
    ∙ shapes_cleared c.deref_mut.result.now
    ∙ ap (λ (rows : List UnitRows). shapes rows) c.deref_mut.ensures.value ∙ c.self.invariant
