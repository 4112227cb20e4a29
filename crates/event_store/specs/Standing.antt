-- Public contracts speak by this: which events stand where, and which did when the store was
-- settled last.
use Rattle.std.specs.Prelude.{ℕ, Bool, ◌==◌, if◌then◌else◌, List, [], ◌∷◌}
use Rattle.ground_types.specs.Touched.{differs}
use Rattle.span_algebra.specs.Normal.{has}

-- what is kept of an event: the points at which it stands, and those at which its standing is
-- another than when the store was settled last
pub record Kept : Type 0 where
  pub points : List ℕ
  pub changed : List ℕ

-- events with what is kept of each
abbrev pub Events : Type 0
Events = List (ℕ × Kept)

-- the points at which an event stands; none where the event is not among them
abbrev pub standing : Events → ℕ → List ℕ
standing [] event = []
standing (e ∷ rest) event = if e.0 == event then e.1.points else standing rest event

-- the points at which its standing has changed
abbrev pub changed : Events → ℕ → List ℕ
changed [] event = []
changed (e ∷ rest) event = if e.0 == event then e.1.changed else changed rest event

-- an event stood at a point when the store was settled last
abbrev pub stood : Events → ℕ → ℕ → Bool
stood events event t = differs (has (standing events event) t) (has (changed events event) t)
