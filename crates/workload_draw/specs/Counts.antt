-- Public contracts speak by this: the commands that make entries, and how many of them there are.
use Rattle.std.specs.Prelude.{Bool, true, false, ℕ, List, count_by}
use Rattle.ground_types.specs.declared.entries.Command.{Command}
use Rattle.ground_types.specs.declared.entries.Command.TheVariants.{Feed, Seal}

abbrev pub is_seal : Command → Bool
is_seal Seal = true
is_seal command = false

-- an add or a revoke
abbrev pub is_feed : Command → Bool
is_feed (Feed feeder act event at) = true
is_feed command = false

abbrev pub seal_count : List Command → ℕ
seal_count commands = count_by is_seal commands

abbrev pub feed_count : List Command → ℕ
feed_count commands = count_by is_feed commands
