use Rattle.std.proofs.Common.{◌≡◌, ◌≤◌, ◌+◌, ◌-◌, ℕ, List, vec_len}
use Rattle.rtec_main.proofs.Streams.{IsReading}
use Rattle.rtec_main.proofs.reads.read_all.Given as goal

pub record Keeps (Front Same Later Short : Type 0) : Type 0 where
  pub front : Front
  pub same : Same
  pub later : Later
  pub short : Short

abbrev pub invariant-read : goal.invariant-read
invariant-read g l =
    Keeps (IsReading (g.I.Inputs.bytes l.fn.inputs l.name) l.text.items)
    ((other : List ℕ) → g.I.Inputs.bytes l.inputs other ≡ g.I.Inputs.bytes l.fn.inputs other)
    ((other : List ℕ) → g.I.Inputs.faults l.fn.inputs other ≤ g.I.Inputs.faults l.inputs other)
    (vec_len l.text ≤ l.limit + 1)

abbrev pub decreases-read : goal.decreases-read
decreases-read g l = l.limit + 1 - vec_len l.text
