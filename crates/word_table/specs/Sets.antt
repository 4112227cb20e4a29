-- Public contracts speak by this: when a set of words is that of a list.
use Rattle.std.specs.Prelude.{◌≡◌, ℕ, true, List}
use Rattle.ground_types.specs.Sound.{is_distinct}
use Rattle.ground_types.specs.Words.{has}

-- the same words stand in both
abbrev pub HaveSame : List (List ℕ) → List (List ℕ) → Type 0
HaveSame words others = (word : List ℕ) → has words word ≡ has others word

-- The set has the words of the list, each once, and it is the list where no word stands there
-- twice.
pub record IsSetOf (set words : List (List ℕ)) : Type 0 where
  pub once : is_distinct set ≡ true
  pub same : HaveSame set words
  pub distinct : is_distinct words ≡ true → set ≡ words
