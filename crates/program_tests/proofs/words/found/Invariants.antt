use Rattle.std.proofs.Common.{◌≡◌}
use Rattle.program_tests.proofs.words.found.Given as goal

abbrev pub invariant-loop-word : goal.invariant-loop-word
invariant-loop-word l = l.finder.program ≡ l.program
