-- No contract speaks by this: evidence, by computation alone, that the definitions say what is
-- meant.
use Rattle.std.specs.Prelude.{◌≡◌, [], ◌∷◌, None, Some, refl}
use Rattle.ground_types.specs.Examples.{alarm}
use Rattle.span_algebra.specs.declared.rows.UnitRows.{UnitRows}
use Rattle.span_algebra.specs.declared.rows.UnitRows.TheVariants.{Fluent, Event}
use Rattle.layer_cache.specs.Cached.{all_empty, unit_shapes, first_value_at}
use Rattle.layer_cache.specs.Shapes.{shapes}

-- a fluent of one value and a derived event
alarm_empty : all_empty alarm ≡ Fluent ([] ∷ []) ∷ Event [] ∷ []
alarm_empty = refl

alarm_shapes : unit_shapes alarm ≡ Some 1 ∷ None ∷ []
alarm_shapes = refl

-- a fluent of two values, of which the first holds in (3, 7] and the second in (6, 11]
abbrev gear : UnitRows
gear = Fluent ((record { after = 3; until = 7 } ∷ []) ∷ (record { after = 6; until = 11 } ∷ [])
    ∷ [])

-- rows with spans and points have the shapes of empty ones
gear_shapes : shapes (gear ∷ Event (4 ∷ []) ∷ []) ≡ Some 2 ∷ None ∷ []
gear_shapes = refl

first_of_two : first_value_at (Some gear) 7 ≡ Some 0
first_of_two = refl

second : first_value_at (Some gear) 8 ≡ Some 1
second = refl

none_there : first_value_at (Some gear) 3 ≡ None
none_there = refl

none_of_events : first_value_at (Some (Event (4 ∷ []))) 4 ≡ None
none_of_events = refl
