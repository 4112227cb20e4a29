use Rattle.std.proofs.Common.{◌≡◌, take}
use Rattle.ground_names.proofs.finder.noted_word.Given as goal

abbrev pub invariant-loop-letter : goal.invariant-loop-letter
invariant-loop-letter l = l.noted.value ≡ take l.letter-index l.word
