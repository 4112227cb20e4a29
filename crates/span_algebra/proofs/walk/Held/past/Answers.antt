use Rattle.std.proofs.Common.{arith}
use Rattle.span_algebra.specs.declared.cursor.Side.TheVariants.{Wanted, Barred}
use Rattle.span_algebra.proofs.walk.Held.past.Goals as goal

pub overflow_sub-result : goal.overflow_sub-result
overflow_sub-result c = grind (
  arith,
  c.requires.less Wanted,
  c.in-Wanted-true.is-0,
  c.in-Wanted-true.is-1,
)

pub overflow_add-result : goal.overflow_add-result
overflow_add-result c = omega (arith, c.requires.more Wanted)

pub overflow_sub-result-in-Barred-true : goal.overflow_sub-result-in-Barred-true
overflow_sub-result-in-Barred-true c = grind (
  arith,
  c.requires.less Barred,
  c.in-Barred-true.is-0,
  c.in-Barred-true.is-1,
)

pub overflow_add-result-in-Barred-false : goal.overflow_add-result-in-Barred-false
overflow_add-result-in-Barred-false c = omega (arith, c.requires.more Barred)
