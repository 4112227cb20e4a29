-- For private functions alone: whether something is kept of an event.
use Rattle.std.specs.Prelude.{Bool, not, ◌&&◌, ◌==◌, length}
use Rattle.event_store.specs.Standing.{Kept}

-- it stands at some point, or has changed at one
abbrev pub has_some : Kept → Bool
has_some k = not ((length k.points == 0) && (length k.changed == 0))
