use Rattle.std.proofs.Common.{◌≡◌, ◌≤◌, ◌<◌, ◌^◌, length, drop}
use Rattle.stream_read.specs.Fields.{number_from}
use Rattle.stream_read.proofs.fields.number.Given as goal

abbrev pub invariant-loop-c : goal.invariant-loop-c
invariant-loop-c l =
    (number_from 0 l.text ≡ number_from l.value (drop l.c-index l.text))
    × (l.value < 10 ^ l.c-index) × (length l.text ≤ 16)
