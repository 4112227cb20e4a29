-- Public contracts speak by this: what rows say.
use Rattle.std.specs.Prelude.{ℕ, Bool, false, List, slice_get, Option, None, Some}
use Rattle.ground_types.specs.Truth.{Table}
use Rattle.span_algebra.specs.Normal.{covers, has}
use Rattle.span_algebra.specs.declared.spans.Span.{Span}
use Rattle.span_algebra.specs.declared.rows.UnitRows.{UnitRows}
use Rattle.span_algebra.specs.declared.rows.UnitRows.TheVariants.{Fluent, Event}

-- a derived event's row has the point
abbrev pub event_has : Option UnitRows → ℕ → Bool
event_has (Some (Event points)) t = has points t
event_has rows t = false

abbrev pub value_covers : Option (List Span) → ℕ → Bool
value_covers None t = false
value_covers (Some row) t = covers row t

-- the row of a fluent's value, if it has one; none of an event
abbrev pub fluent_row : UnitRows → ℕ → Option (List Span)
fluent_row (Fluent rows) v = slice_get rows v
fluent_row (Event points) v = None

-- the row of a fluent's value has the point
abbrev pub fluent_has : Option UnitRows → ℕ → ℕ → Bool
fluent_has (Some (Fluent rows)) v t = value_covers (slice_get rows v) t
fluent_has rows v t = false

-- The table that rows are: no input event occurs in it, derived events and fluents are told by
-- their rows. A fluent's rows say of each of its values where it holds, so no value is told as that
-- of a simple fluent.
abbrev pub told : List UnitRows → Table
told rows = record {
  occurs = λ event t. false;
  derived = λ unit t. event_has (slice_get rows unit) t;
  value = λ unit t. None;
  static = λ unit v t. fluent_has (slice_get rows unit) v t;
}
