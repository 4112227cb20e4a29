-- No contract speaks by this yet: *Meaning without windows*, what a history means over all points
-- after the first border.
use Rattle.std.specs.Prelude.{ℕ, nat_lt, Bool, false, ◌&&◌, ◌==◌, List, find, reverse}
use Rattle.ground_types.specs.Truth.{Table}
use Rattle.ground_types.specs.Recognition.{all_layers, kind_of}
use Rattle.ground_types.specs.History.{is_add}
use Rattle.ground_types.specs.Publication.{initial_of}
use Rattle.ground_types.specs.declared.entries.Entry.{Entry}
use Rattle.ground_types.specs.declared.entries.Entry.TheVariants.{Fed, Seal}
use Rattle.ground_types.specs.declared.program.Program.{Program}

-- the entry names this event and point, whatever it was answered
abbrev pub tells_of : ℕ → ℕ → Entry → Bool
tells_of event t (Fed feeder act e at reply) = (e == event) && (at == t)
tells_of event t (Seal number) = false

-- the told events: the last entry that names the event and the point is an add
abbrev pub was_told : List Entry → ℕ → ℕ → Bool
was_told history event t = is_add (find (tells_of event t) (reverse history))

-- one window without end after the first border, from the initial values over the told events
abbrev pub whole : Program → List Entry → Table
whole program history =
    all_layers program (λ unit. initial_of (kind_of program unit))
    (λ event t. nat_lt program.plan.from t && was_told history event t) program.plan.from
