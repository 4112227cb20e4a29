-- Public contracts speak by this: the tokens of a text with their lines, by cases on its bytes.
use Rattle.std.specs.Prelude.{ℕ, ◌+◌, ◌==◌, Bool, true, false, List, [], ◌∷◌, take_while}
use Rattle.std.specs.Prelude.{if◌then◌else◌}
use Rattle.rt_base.specs.Kinds.{is_letter}
use Rattle.rule_read.specs.declared.token.Class.{Class}
use Rattle.rule_read.specs.declared.token.Class.TheVariants as class
use Rattle.rule_read.specs.declared.token.Mark.{Mark}
use Rattle.rule_read.specs.declared.token.Mark.TheVariants.{Open, Close, OpenList, CloseList, Comma}
use Rattle.rule_read.specs.declared.token.Mark.TheVariants.{Equals, If, Differs, Stray}
use Rattle.rule_read.specs.Bytes.{class_of}

-- a word, or a mark that is not a dot
pub data Token : Type 0 where
  Word : List ℕ → Token
  Sign : Mark → Token

-- The pieces of a text: tokens, the dots that end statements, and bytes that may not stand there.
pub data Piece : Type 0 where
  Said : Token → Piece
  Dot : Piece
  Bad : Piece

-- a piece and its line, counted from 1
pub record Placed : Type 0 where
  pub line : ℕ
  pub piece : Piece

-- Where a place is: in a comment, at the second byte of a mark of two, or in the text, maybe behind
-- a byte of the same word.
pub data Mode : Type 0 where
  Comment : Mode
  Second : Mode
  Text : Bool → Mode

abbrev pub next_is : ℕ → List ℕ → Bool
next_is c [] = false
next_is c (b ∷ bs) = b == c

abbrev pub put : ℕ → Piece → List Placed → List Placed
put line piece rest = record { line = line; piece = piece } ∷ rest

-- A byte of a class in the text, whether or not it is behind a byte of the same word; go gives the
-- pieces behind it.
abbrev pub at_byte : Class → ℕ → Bool → ℕ → List ℕ → (ℕ → Mode → List Placed) → List Placed
at_byte class.Letter line in_word b bs go =
    if in_word then go line (Text true) else put line (Said (Word (take_while is_letter (b ∷ bs))))
    (go line (Text true))
at_byte class.Line line in_word b bs go = go (line + 1) (Text false)
at_byte class.Gap line in_word b bs go = go line (Text false)
at_byte class.Percent line in_word b bs go = go line Comment
at_byte class.Open line in_word b bs go = put line (Said (Sign Open)) (go line (Text false))
at_byte class.Close line in_word b bs go = put line (Said (Sign Close)) (go line (Text false))
at_byte class.OpenList line in_word b bs go = put line (Said (Sign OpenList)) (go line (Text false))
at_byte class.CloseList line in_word b bs go = put line (Said (Sign CloseList))
    (go line (Text false))
at_byte class.Comma line in_word b bs go = put line (Said (Sign Comma)) (go line (Text false))
at_byte class.Equals line in_word b bs go = put line (Said (Sign Equals)) (go line (Text false))
at_byte class.Dot line in_word b bs go = put line Dot (go line (Text false))
at_byte class.Colon line in_word b bs go =
    if next_is 45 bs then put line (Said (Sign If)) (go line Second)
    else put line (Said (Sign Stray)) (go line (Text false))
at_byte class.Backslash line in_word b bs go =
    if next_is 61 bs then put line (Said (Sign Differs)) (go line Second)
    else put line (Said (Sign Stray)) (go line (Text false))
at_byte class.Dash line in_word b bs go = put line (Said (Sign Stray)) (go line (Text false))
at_byte class.Other line in_word b bs go = put line Bad (go line (Text false))

-- The pieces of the bytes from a place on, which is on a line.
unfoldable pub cut : ℕ → Mode → List ℕ → List Placed
cut line mode [] = []
cut line Comment (b ∷ bs) = if b == 10 then cut (line + 1) (Text false) bs else cut line Comment bs
cut line Second (b ∷ bs) = cut line (Text false) bs
cut line (Text in_word) (b ∷ bs) = at_byte (class_of b) line in_word b bs (λ at mode.
    cut at mode bs)

-- the pieces of a text from between two tokens on
abbrev pub pieces : ℕ → List ℕ → List Placed
pieces line bytes = cut line (Text false) bytes
