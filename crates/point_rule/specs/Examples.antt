-- No contract speaks by this: evidence, by computation alone, that the definitions say what is
-- meant.
use Rattle.std.specs.Prelude.{ℕ, ◌&&◌, Some, ◌≡◌, true, false, List, [], ◌∷◌, refl}
use Rattle.ground_types.specs.Rows.{points}
use Rattle.ground_types.specs.Truth.{happens, body_holds}
use Rattle.ground_types.specs.declared.program.Rule.{Rule}
use Rattle.ground_types.specs.declared.program.Trigger.TheVariants as trigger
use Rattle.ground_types.specs.declared.program.What.TheVariants.{Holds}
use Rattle.span_algebra.specs.declared.rows.UnitRows.{UnitRows}
use Rattle.span_algebra.specs.declared.rows.UnitRows.TheVariants.{Fluent, Event}
use Rattle.layer_cache.specs.Rows.{Cached}
use Rattle.event_store.specs.Standing.{Events}
use Rattle.point_rule.specs.Known.{known, is_open}

-- over the window (0, 10]: a fluent of one value that holds in (3, 7] and (9, 11], and a derived
-- event at 5
abbrev rows : List UnitRows
rows = Fluent ((record { after = 3; until = 7 } ∷ record { after = 9; until = 11 } ∷ []) ∷ [])
    ∷ Event (5 ∷ []) ∷ []

-- an input event at both borders of the window and outside it, and at 3, 4 and 7
abbrev store : Events
store = (0, record { points = 0 ∷ 3 ∷ 4 ∷ 7 ∷ 10 ∷ 12 ∷ []; changed = [] }) ∷ []

-- the event happens while the fluent does not have the value
abbrev guarded : Rule
guarded = record {
  value = 0;
  trigger = trigger.Event 0;
  conds = record {
    positive = false;
    what = Holds 0 0;
  } ∷ [];
}

-- A value that begins at 3 does not hold there yet, and one that ends at 7 still does.
guarded_points : points (body_holds (known rows store) guarded) 0 10 ≡ 3 ∷ []
guarded_points = refl

-- with the condition as it stands and not its contrary
while_it_holds : points (body_holds (known rows store) (record {
  value = 0;
  trigger =
      trigger.Event 0;
  conds = record { positive = true; what = Holds 0 0 } ∷ [];
})) 0 10
    ≡ 4 ∷ 7 ∷ 10 ∷ []
while_it_holds = refl

triggers : points (happens (known rows store) (trigger.Event 0)) 0 10 ≡ 3 ∷ 4 ∷ 7 ∷ 10 ∷ []
triggers = refl

starts : points (happens (known rows store) (trigger.Start 0 0)) 0 10 ≡ 3 ∷ 9 ∷ []
starts = refl

ends : points (happens (known rows store) (trigger.End 0 0)) 0 10 ≡ 7 ∷ []
ends = refl

derived : points (happens (known rows store) (trigger.Derived 1)) 0 10 ≡ 5 ∷ []
derived = refl

-- What has no row is not so, and `not` of it is.
nowhere : points (body_holds (known [] store) (record {
  value = 0;
  trigger = trigger.Event 0;
  conds = record { positive = true; what = Holds 0 0 } ∷ [];
})) 0 10 ≡ []
nowhere = refl

everywhere : points (body_holds (known [] store) guarded) 0 10 ≡ 3 ∷ 4 ∷ 7 ∷ 10 ∷ []
everywhere = refl

-- Over (0, 10] a fluent of one value held in (8, 11], and a second one nowhere. Over (5, 15] the
-- second holds in (6, 16].
abbrev heated : Cached
heated = record {
  rows = Fluent ([] ∷ []) ∷ Fluent ((record { after = 6; until = 16 } ∷ []) ∷ []) ∷ [];
  before = Fluent ((record { after = 8; until = 11 } ∷ []) ∷ []) ∷ Fluent ([] ∷ []) ∷ [];
}

-- the event 0 stands at 8 as it did, the event 1 stands at 6 and did not
abbrev late : Events
late = (0, record { points = 8 ∷ []; changed = [] }) ∷ (
  1,
  record {
    points = 6 ∷ [];
    changed =
        6 ∷ [];
  },
) ∷ []

abbrev touched_after : Rule → List ℕ
touched_after rule = points (λ t. happens (known heated.rows late) rule.trigger t
    && is_open (Some 10) heated late rule t) 5 15

-- A rule is looked at where its trigger is new, and where a condition has another truth than it
-- had.
new_trigger : touched_after (record { value = 0; trigger = trigger.Event 1; conds = [] }) ≡ 6 ∷ []
new_trigger = refl

other_condition : touched_after (record {
  value = 0;
  trigger = trigger.Event 0;
  conds = record { positive = false; what = Holds 1 0 } ∷ [];
}) ≡ 8 ∷ []
other_condition = refl

-- Where nothing changed it is not.
settled : touched_after (record { value = 0; trigger = trigger.Event 0; conds = [] }) ≡ []
settled = refl
