-- Public contracts speak by this: two truths side by side.
use Rattle.std.specs.Prelude.{Bool, true, false, not}

-- one of them holds, and not the other
abbrev pub differs : Bool → Bool → Bool
differs true b = not b
differs false b = b
