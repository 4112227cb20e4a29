-- No contract speaks by this: evidence, by computation alone, that the definitions say what is
-- meant.
use Rattle.std.specs.Prelude.{◌≡◌, ℕ, List, [], ◌∷◌, None, Some, refl}
use Rattle.ground_types.specs.Examples.{gear}
use Rattle.ground_types.specs.Publication.{fluent_rows}
use Rattle.ground_types.specs.Recognition.{kind_of}
use Rattle.ground_types.specs.Touched.{rules_of}
use Rattle.ground_types.specs.declared.program.Expr.{Row}
use Rattle.ground_types.specs.declared.program.UnitKind.TheVariants.{Static}
use Rattle.event_store.specs.Standing.{Kept}
use Rattle.point_rule.specs.Known.{known}
use Rattle.span_algebra.specs.declared.rows.UnitRows.TheVariants.{Fluent}
use Rattle.delay_revise.specs.Working.{rows_over, triggers_of}

-- an event stands at these points, as it did
abbrev kept : List ℕ → Kept
kept at = record { points = at; changed = [] }

-- A gear has the values low and high, which the events 0 and 1 initiate. Of two that are initiated
-- at one point the one declared first counts.
first_declared : rows_over (known [] ((0, kept (6 ∷ [])) ∷ (1, kept (6 ∷ [])) ∷ [])) None 2
    (kind_of gear 0) 0 10 ≡ fluent_rows (((6, 11) ∷ []) ∷ [] ∷ [])
first_declared = refl

-- a value breaks the one before it
broken : rows_over (known [] ((0, kept (2 ∷ [])) ∷ (1, kept (6 ∷ [])) ∷ [])) None 2
    (kind_of gear 0) 0 10 ≡ fluent_rows (((2, 6) ∷ []) ∷ ((6, 11) ∷ []) ∷ [])
broken = refl

-- an opening value holds from the left border on
opened : rows_over (known [] ((1, kept (6 ∷ [])) ∷ [])) (Some 0) 2 (kind_of gear 0) 0 10
    ≡ fluent_rows (((0, 6) ∷ []) ∷ ((6, 11) ∷ []) ∷ [])
opened = refl

-- the values of a statically determined fluent have the rows of its expressions, in their order,
-- and may hold together
of_expressions : rows_over (known (Fluent ((record { after = 2; until = 6 } ∷ [])
    ∷ (record { after = 4; until = 11 } ∷ []) ∷ []) ∷ []) []) None 3
    (Static (Row 0 1 ∷ Row 0 0 ∷ Row 0 2 ∷ [])) 0 10
    ≡ fluent_rows (((4, 11) ∷ []) ∷ ((2, 6) ∷ []) ∷ [] ∷ [])
of_expressions = refl

-- each trigger is looked for in the window
triggered : triggers_of (known [] ((0, kept (0 ∷ 2 ∷ 10 ∷ [])) ∷ (1, kept (6 ∷ 11 ∷ [])) ∷ []))
    (rules_of (kind_of gear 0)) 0 10 ≡ 3
triggered = refl
