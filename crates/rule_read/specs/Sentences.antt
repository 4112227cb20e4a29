-- Public contracts speak by this: statements as tokens, up to and with the next dot.
use Rattle.std.specs.Prelude.{ℕ, Bool, true, false, List, [], ◌∷◌, ◌++◌, Option, Some, None}
use Rattle.rule_read.specs.Tokens.{Token, Said, Dot, Bad, Placed, pieces}

-- the tokens of a statement before its dot, whether the dot is there, and the line where it begins,
-- be it with the dot
pub record Sentence : Type 0 where
  pub line : ℕ
  pub tokens : List Token
  pub whole : Bool

-- Tokens that begin on a line, before some statements: they belong to the first of these, or to one
-- without a dot.
abbrev pub lead : ℕ → List Token → List Sentence → List Sentence
lead line [] ss = ss
lead line (t ∷ ts) [] = record { line = line; tokens = t ∷ ts; whole = false } ∷ []
lead line (t ∷ ts) (s ∷ ss) = record {
  line = line;
  tokens = (t ∷ ts) ++ s.tokens;
  whole = s.whole;
} ∷ ss

unfoldable pub sentences : List Placed → List Sentence
sentences [] = []
sentences (p ∷ ps) = elim p.piece [
  | Said t ↦ lead p.line (t ∷ []) (sentences ps)
  | Dot ↦ record { line = p.line; tokens = []; whole = true } ∷ sentences ps
  | Bad ↦ sentences ps
]

-- the line of the first byte that may not stand there
unfoldable pub first_bad : List Placed → Option ℕ
first_bad [] = None
first_bad (p ∷ ps) = elim p.piece [ Bad ↦ Some p.line | _ ↦ first_bad ps ]

-- the statements of a text
abbrev pub sentences_of : List ℕ → List Sentence
sentences_of text = sentences (pieces 1 text)

-- the line of the first byte of a text that is not permitted
abbrev pub bad_byte_of : List ℕ → Option ℕ
bad_byte_of text = first_bad (pieces 1 text)
