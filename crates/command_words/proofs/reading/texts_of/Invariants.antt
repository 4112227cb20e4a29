use Rattle.std.proofs.Common.{◌≡◌, take}
use Rattle.command_words.specs.Words.{texts, AreTexts}
use Rattle.command_words.proofs.reading.texts_of.Given as goal

abbrev pub invariant-loop-word : goal.invariant-loop-word
invariant-loop-word l = record {
  is : texts l.lent.items ≡ take l.word-index l.words;
  each : AreTexts (texts l.lent.items);
}
