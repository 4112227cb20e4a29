use Rattle.std.proofs.Common.{◌≡◌, ℕ, length}
use Rattle.rtec_main.proofs.Streams.{IsWritten}
use Rattle.rtec_main.proofs.writes.write_all.Given as goal

pub record Keeps (Written None : Type 0) : Type 0 where
  pub written : Written
  pub none : None

abbrev pub invariant-write : goal.invariant-write
invariant-write g l =
    Keeps ((n : ℕ) × IsWritten l.text (g.K.Sink.taken l.fn.out) (g.K.Sink.taken l.out) l.rest n)
    (g.K.Sink.faults l.out ≡ g.K.Sink.faults l.fn.out)

abbrev pub decreases-write : goal.decreases-write
decreases-write g l = length l.rest
