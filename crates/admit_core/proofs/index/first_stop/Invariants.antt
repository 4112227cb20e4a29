use Rattle.std.proofs.Common.{◌≡◌, ℕ, ◌<◌, false}
use Rattle.admit_core.specs.Index.{stops_at}
use Rattle.admit_core.proofs.index.first_stop.Given as goal

abbrev pub invariant-loop-place : goal.invariant-loop-place
invariant-loop-place l =
    (q : ℕ) → q < l.place → stops_at l.history l.slots l.event l.at q ≡ false
