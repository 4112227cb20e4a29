-- For private functions alone: the two queries of which a rule's conditions are read, the one that
-- is computed and the one before.
use Rattle.std.specs.Prelude.{ℕ, Bool, List}
use Rattle.ground_types.specs.Truth.{Table}
use Rattle.span_algebra.specs.Normal.{has}
use Rattle.span_algebra.specs.declared.rows.UnitRows.{UnitRows}
use Rattle.layer_cache.specs.Rows.{Cached}
use Rattle.event_store.specs.Standing.{Events, standing, stood}
use Rattle.point_rule.specs.declared.side.Side.{Side}
use Rattle.point_rule.specs.declared.side.Side.TheVariants.{Now, Before}
use Rattle.point_rule.specs.Known.{with_events}

-- the rows of a side
abbrev pub rows_on : Side → Cached → List UnitRows
rows_on Now cached = cached.rows
rows_on Before cached = cached.before

-- where input events occur on a side
abbrev pub occurs_on : Side → Events → ℕ → ℕ → Bool
occurs_on Now events event t = has (standing events event) t
occurs_on Before events event t = stood events event t

-- what is known on a side: of the one what is known now, of the other what was known of the query
-- before
abbrev pub known_on : Side → Cached → Events → Table
known_on side cached events = with_events (rows_on side cached) (occurs_on side events)
