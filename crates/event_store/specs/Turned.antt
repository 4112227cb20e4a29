-- For private functions alone: what is kept of events that turn at some points.
use Rattle.std.specs.Prelude.{ℕ, ◌≡◌, [], Option, None, Some, nat_eq, unwrap_or}
use Rattle.std.specs.Option.{option_or}
use Rattle.std.specs.Map.{lookup}
use Rattle.ground_types.specs.Touched.{differs}
use Rattle.span_algebra.specs.Normal.{has}
use Rattle.event_store.specs.Standing.{Kept, Events, standing, stood}

-- what is kept of an event by the first of two lists that has it; nothing where neither has
abbrev pub kept_first : Events → Events → ℕ → Kept
kept_first fresh events event =
    unwrap_or (option_or (lookup (nat_eq event) fresh) (lookup (nat_eq event) events))
    (record { points = []; changed = [] })

-- an event turned at the points of `turns`: its standing is another there, and it stood where it
-- did
pub record IsTurned (old : Events) (event : ℕ) (turns now : Kept) : Type 0 where
  pub standing : (t : ℕ) → has now.points t ≡ differs (has (standing old event) t)
      (has turns.points t)
  pub settled : (t : ℕ) → differs (has now.points t) (has now.changed t) ≡ stood old event t

-- the same where an event is in both lists, or in none
abbrev pub AreBoth : Events → ℕ → Option Kept → Option Kept → Type 0
AreBoth old event None None = Unit {0}
AreBoth old event (Some turns) (Some now) = IsTurned old event turns now
AreBoth old event turns now = ⊥

-- each event that turns is there, and no other
abbrev pub AreTurned : Events → Events → Events → Type 0
AreTurned old turned fresh = (event : ℕ) → AreBoth old event (lookup (nat_eq event) turned)
    (lookup (nat_eq event) fresh)
