use Rattle.std.proofs.Common.{◌≡◌, vec_len}
use Rattle.static_fluent.proofs.tests.fluent_rows.Given as goal

abbrev pub invariant-loop-span : goal.invariant-loop-span
invariant-loop-span l = vec_len l.rows ≡ l.span-index
