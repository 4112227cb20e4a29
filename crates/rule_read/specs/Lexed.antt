-- For private functions alone: what the lexer says of the pieces that it passes.
use Rattle.std.specs.Prelude.{◌≡◌, ℕ, ◌<◌, true, List, [], ◌∷◌, Option, Some, None, map}
use Rattle.rule_read.specs.declared.token.Token.{Token as Code}
use Rattle.rule_read.specs.declared.token.Token.TheVariants as code
use Rattle.rule_read.specs.declared.token.Lexeme.{Lexeme}
use Rattle.rule_read.specs.declared.token.Lexeme.TheVariants as lexeme
use Rattle.rule_read.specs.declared.token.Ending.{Ending}
use Rattle.rule_read.specs.declared.token.Ending.TheVariants as ending
use Rattle.rule_read.specs.Tokens.{Token, Word, Sign, Said, Dot, Bad, Placed, put}
use Rattle.rule_read.specs.Sentences.{lead, sentences, first_bad}

abbrev pub token : Code → Token
token (code.Word text) = Word text.now
token (code.Mark mark) = Sign mark

abbrev pub tokens : List Code → List Token
tokens ts = map token ts

-- Reading the next piece takes it off the front.
abbrev pub Takes : List Placed → ℕ → Lexeme → List Placed → Type 0
Takes before line (lexeme.Token t) after = before ≡ put line (Said (token t)) after
Takes before line lexeme.Dot after = before ≡ put line Dot after
Takes before line lexeme.Bad after = before ≡ put line Bad after
Takes before line lexeme.End after = before ≡ []

-- The same of a lexer that may pass over a gap.
abbrev pub Steps : List Placed → ℕ → Option Lexeme → List Placed → Type 0
Steps before line None after = before ≡ after
Steps before line (Some found) after = Takes before line found after

-- the line of the first token: the new one where there is none yet
abbrev pub line_then : List Token → ℕ → ℕ → ℕ
line_then [] old new = new
line_then (t ∷ ts) old new = old

-- What stood before, where a statement ended with these tokens, the first of them or the dot on a
-- line.
abbrev pub Ended : List Placed → Ending → ℕ → List Token → List Placed → Type 0
Ended before ending.Dot line ts after =
    (sentences before ≡ lead line ts (record { line = line; tokens = []; whole = true } ∷ sentences
    after)) × (first_bad before ≡ first_bad after)
Ended before ending.End line ts after = (sentences before ≡ lead line ts [])
    × (first_bad before ≡ None)
Ended before ending.Bad line ts after = first_bad before ≡ Some line

abbrev pub Shorter : Lexeme → ℕ → ℕ → Type 0
Shorter lexeme.End before after = Unit {0}
Shorter _ before after = after < before

abbrev pub ShorterStep : Option Lexeme → ℕ → ℕ → Type 0
ShorterStep None before after = after < before
ShorterStep (Some found) before after = Shorter found before after

abbrev pub ShorterAt : Ending → ℕ → ℕ → Type 0
ShorterAt ending.Dot before after = after < before
ShorterAt _ before after = Unit {0}
