use Rattle.std.proofs.Common.{map, take}
use Rattle.word_table.specs.Sets.{IsSetOf}
use Rattle.word_table.proofs.table.WordTable.of.Given as goal

abbrev pub invariant-loop-item : goal.invariant-loop-item
invariant-loop-item g l = IsSetOf l.table (map g.T.Worded.word_of (take l.item-index l.items))
