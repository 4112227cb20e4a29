-- For private functions alone: what contracts see of words that are not kept.
use Rattle.std.specs.Prelude.{ℕ, List, [], ◌∷◌, ◌++◌}
use Rattle.ground_names.specs.Found.{Asked}
use Rattle.ground_names.specs.declared.finder.Letter.{Letter}
use Rattle.ground_names.specs.declared.finder.Letter.TheVariants as letter
use Rattle.ground_names.specs.declared.finder.AskedWord.{AskedWord}
use Rattle.ground_names.specs.declared.finder.AskedWord.TheVariants as asked_word

-- a word, from its beginning on
abbrev pub spelled : Letter → List ℕ
spelled letter.Nothing = []
spelled (letter.Further before last) = before.value ++ last ∷ []

-- a name and the arguments so far
abbrev pub asked : AskedWord → Asked
asked (asked_word.Name program word) = record {
  program = program.value;
  word = word.value;
  args = [];
}
asked (asked_word.Argument before word) = record {
  program = before.value.program;
  word = before.value.word;
  args = before.value.args ++ word.value ∷ [];
}
