use Rattle.std.proofs.Common.{◌≡◌, take}
use Rattle.domain_decl.proofs.contents.copied.Given as goal

abbrev pub invariant-loop-word : goal.invariant-loop-word
invariant-loop-word l = l.list.items ≡ take l.word-index l.words
