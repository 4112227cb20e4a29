-- For private functions alone: tests that pass or refuse.
use Rattle.std.specs.Prelude.{◌≡◌, Option, Some, None, Result, Ok, Err}
use Rattle.rt_base.specs.declared.limit.Limit.{Limit}
use Rattle.ground_rules.specs.declared.refused.GroundRefused.{GroundRefused}
use Rattle.ground_rules.specs.declared.refused.GroundRefused.TheVariants as refused

-- no limit was exceeded, or the first that was is refused, unless memory ran out
abbrev pub Tests : {T : Type 0} → Result T GroundRefused → Option Limit → Type 0
Tests (Ok passed) first = first ≡ None
Tests (Err (refused.TooLarge limit)) first = first ≡ Some limit
Tests (Err refused.OutOfMemory) first = Unit {0}
