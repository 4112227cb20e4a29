use Rattle.std.proofs.Common.{◌≡◌, take, true}
use Rattle.ground_types.specs.Sound.{is_distinct}
use Rattle.word_table.proofs.table.are_distinct.Given as goal

abbrev pub invariant-loop-word : goal.invariant-loop-word
invariant-loop-word l = record {
  seen : l.seen ≡ take l.word-index l.words;
  distinct : is_distinct (take l.word-index l.words) ≡ true;
}
