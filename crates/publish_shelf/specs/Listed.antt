-- Public contracts speak by this: what boards keep of their publications.
use Rattle.std.specs.Prelude.{◌≡◌, ℕ, List, length, slice_get, Some}
use Rattle.query_ask.specs.Right.{Parts}
use Rattle.query_ask.specs.Answers.{AreOfProgram}

-- member j is the publication of query j, and all are of one program
abbrev pub IsListed : List Parts → Type 0
IsListed list = (j : ℕ) (parts : Parts) → slice_get list j ≡ Some parts →
    AreOfProgram parts.program list

-- a publication that may follow: its number is how many there are, and its program is theirs
pub record MayFollow (list : List Parts) (parts : Parts) : Type 0 where
  pub number : parts.number ≡ length list
  pub program : (j : ℕ) (other : Parts) → slice_get list j ≡ Some other →
      other.program ≡ parts.program
