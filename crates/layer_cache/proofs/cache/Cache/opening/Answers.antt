use Rattle.std.proofs.Common.{◌∙◌, List, Some, refl, sym, ap}
use Rattle.std.specs.Prelude.{position}
use Rattle.span_algebra.specs.Normal.{covers}
use Rattle.span_algebra.specs.declared.spans.Span.{Span}
use Rattle.span_algebra.specs.declared.rows.UnitRows.TheVariants.{Fluent}
use Rattle.layer_cache.specs.Cached.{small_value}
use Rattle.layer_cache.specs.Rows.{Cached}
use Rattle.layer_cache.specs.Shapes.{shapes}
use Rattle.layer_cache.proofs.Shaping.{opening_within}
use Rattle.layer_cache.proofs.cache.Cache.opening.Goals as goal

pub returns-in-Fluent-clause-first : goal.returns-in-Fluent-clause-first
returns-in-Fluent-clause-first c =
    rw (c.old_row.ensures, c.in-Fluent.is, ← c.as_slice.ensures) (c.small_value.ensures
    ∙ ap small_value c.first_with.ensures)

pub returns-in-Fluent-clause-value : goal.returns-in-Fluent-clause-value
returns-in-Fluent-clause-value c =
    opening_within c.args.self.now.rows c.args.self.now.before c.args.unit
    (Fluent c.in-Fluent.rows) c.args.at c.small_value.result
    (ap (λ (cache : Cached). shapes cache.rows) (sym c.self.view_is) ∙ c.self.invariant
    ∙ ap (λ (cache : Cached). shapes cache.before) c.self.view_is)
    (c.old_row.ensures ∙ ap Some c.in-Fluent.is)
    (c.small_value.ensures ∙ ap small_value c.first_with.ensures
    ∙ ap (λ (rows : List (List Span)). small_value (position (λ row. covers row c.args.at) rows))
    c.as_slice.ensures)

pub returns-in-Event-clause-first : goal.returns-in-Event-clause-first
returns-in-Event-clause-first c = rw (c.old_row.ensures, c.in-Event.is) refl
