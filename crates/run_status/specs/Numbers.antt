-- Public contracts speak by this: the numbers of the statuses.
use Rattle.std.specs.Prelude.{ℕ}
use Rattle.run_status.specs.declared.status.Status.{Status}
use Rattle.run_status.specs.declared.status.Status.TheVariants as status

-- the number with which the process ends
abbrev pub number_of : Status → ℕ
number_of status.Done = 0
number_of status.BadWords = 2
number_of (status.BadDescription why) = 3
number_of (status.BadScript input place why) = 4
number_of (status.TooLarge limit) = 5
number_of (status.ReadFault input) = 6
number_of status.WriteFault = 7
number_of status.OutOfMemory = 8
number_of (status.Differs number line) = 9
