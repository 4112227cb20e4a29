-- Public contracts speak by this: the occurrences of an event in a window.
use Rattle.std.specs.Prelude.{ℕ, List, map}
use Rattle.ground_types.specs.Rows.{points}
use Rattle.ground_types.specs.declared.entries.Occ.{Occ}
use Rattle.span_algebra.specs.Normal.{has}
use Rattle.event_store.specs.Standing.{Events, standing}

-- where an event stands in the window (w, q], point after point
abbrev pub occurrences_of : Events → ℕ → ℕ → ℕ → List Occ
occurrences_of events w q event = map (λ t. record { event = event; at = t })
    (points (λ t. has (standing events event) t) w q)
