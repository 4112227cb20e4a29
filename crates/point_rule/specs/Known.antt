-- Public contracts speak by this: what is known of a window while it is computed, the rows of units
-- and the events that stand.
use Rattle.std.specs.Prelude.{◌≡◌, ℕ, nat_lt, Bool, true, ◌||◌, List, length, Option, None, Some}
use Rattle.std.specs.List.{list_all}
use Rattle.ground_types.specs.Truth.{Table}
use Rattle.ground_types.specs.Meaning.{units_of_rule}
use Rattle.ground_types.specs.Touched.{is_changed}
use Rattle.ground_types.specs.declared.program.Rule.{Rule}
use Rattle.span_algebra.specs.Normal.{has}
use Rattle.span_algebra.specs.declared.rows.UnitRows.{UnitRows}
use Rattle.layer_cache.specs.Rows.{Cached}
use Rattle.layer_cache.specs.Told.{told}
use Rattle.event_store.specs.Standing.{Events, standing, stood}

-- the table that rows are, with input events where they are said to occur
abbrev pub with_events : List UnitRows → (ℕ → ℕ → Bool) → Table
with_events rows occurs = record {
  occurs = occurs;
  derived = (told rows).derived;
  value = (told rows).value;
  static = (told rows).static;
}

-- what is known now: rows, and input events where they stand
abbrev pub known : List UnitRows → Events → Table
known rows events = with_events rows (λ event t. has (standing events event) t)

-- what was known of the query before: the old rows, and input events where they stood when the
-- store was settled last
abbrev pub known_before : Cached → Events → Table
known_before cached events = with_events cached.before (stood events)

-- the units that a rule names have rows
abbrev pub HasRows : List UnitRows → Rule → Type 0
HasRows rows rule = list_all (λ unit. nat_lt unit (length rows)) (units_of_rule rule) ≡ true

-- the query before, which ended at this point if there was one, does not settle the body of a rule
-- at a point: there is none, the point is past its window, or the trigger or a condition had
-- another truth there
abbrev pub is_open : Option ℕ → Cached → Events → Rule → ℕ → Bool
is_open None cached events rule t = true
is_open (Some before) cached events rule t =
    nat_lt before t || is_changed (known_before cached events) (known cached.rows events) rule t
