use Rattle.std.proofs.Common.{◌≡◌, replicate}
use Rattle.strata_check.specs.declared.walk.Mark.TheVariants.{New}
use Rattle.strata_check.proofs.walk.new_marks.Given as goal

abbrev pub invariant-loop-turn : goal.invariant-loop-turn
invariant-loop-turn l = l.marks.items ≡ replicate l._turn New
