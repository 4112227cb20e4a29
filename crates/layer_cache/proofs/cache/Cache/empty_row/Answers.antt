use Rattle.std.proofs.Common.{◌≡◌, ◌∙◌, ◌<◌, ℕ, length, get_or, Some, IfSome, refl, sym, ap, ap₂}
use Rattle.std.specs.Prelude.{slice_get, slice_set}
use Rattle.std.proofs.lemmas.Option.{slice_get_read}
use Rattle.span_algebra.specs.declared.rows.UnitRows.{UnitRows}
use Rattle.layer_cache.specs.Rows.{Cached}
use Rattle.layer_cache.specs.Shapes.{shape, shapes, empty_of}
use Rattle.layer_cache.proofs.Shaping.{shape_at, shapes_emptied}
use Rattle.layer_cache.proofs.cache.Cache.empty_row.Goals as goal

-- the rows that are there, in the fields and in what they are seen as
row_read : (inside now : Cached) (unit : ℕ) (row : UnitRows) → inside ≡ now
    → unit < length now.rows → row ≡ get_or inside.rows unit row
    → slice_get now.rows unit ≡ Some row
row_read inside now unit row view known is =
    slice_get_read now.rows (length now.rows) unit row refl known
    (is ∙ ap (λ (cache : Cached). get_or cache.rows unit row) view)

shapes_stay : (inside now : Cached) (unit : ℕ) (row put : UnitRows) → inside ≡ now
    → unit < length now.rows → row ≡ get_or inside.rows unit row → put ≡ empty_of (shape row)
    → shapes (slice_set inside.rows unit put) ≡ shapes now.rows
shapes_stay inside now unit row put view known is empty =
    ap₂ (λ (cache : Cached) (put : UnitRows). shapes (slice_set cache.rows unit put)) view empty
    ∙ shapes_emptied now.rows unit row (row_read inside now unit row view known is)

emptied : (inside now : Cached) (unit : ℕ) (row put : UnitRows) → inside ≡ now
    → unit < length now.rows → row ≡ get_or inside.rows unit row → put ≡ empty_of (shape row)
    → IfSome (slice_get (shapes now.rows) unit)
    (λ kind. (let after : Cached = record {
      rows = slice_set inside.rows unit put;
      before = inside.before;
    } in after) ≡ record { rows = slice_set now.rows unit (empty_of kind); before = now.before })
emptied inside now unit row put view known is empty =
    let put_in : Cached → UnitRows → Cached = λ cache put. record {
      rows = slice_set cache.rows unit put;
      before = cache.before;
    } in
    rw (shape_at now.rows unit row (row_read inside now unit row view known is))
    (ap₂ put_in view empty)

pub invariant_of-self : goal.invariant_of-self
invariant_of-self c =
    shapes_stay _ c.args.self.now c.args.unit c.index_mut.result.now c.empty.new.rows
    c.self.view_is c.requires c.index_mut.ensures.value c.empty.ensures
    ∙ ap (λ (cache : Cached). shapes cache.rows) (sym c.self.view_is) ∙ c.self.invariant

pub returns-clause-emptied : goal.returns-clause-emptied
returns-clause-emptied c =
    emptied _ c.args.self.now c.args.unit c.index_mut.result.now c.empty.new.rows
    c.self.view_is c.requires c.index_mut.ensures.value c.empty.ensures

pub returns-clause-shapes : goal.returns-clause-shapes
returns-clause-shapes c =
    shapes_stay _ c.args.self.now c.args.unit c.index_mut.result.now c.empty.new.rows
    c.self.view_is c.requires c.index_mut.ensures.value c.empty.ensures
