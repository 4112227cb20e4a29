-- Public contracts speak by this: what the pieces of a line are as text.
use Rattle.std.specs.Prelude.{ℕ, List, decimal}
use Rattle.text_pieces.specs.declared.pieces.Piece.{Piece}
use Rattle.text_pieces.specs.declared.pieces.Piece.TheVariants.{Text, Number, Sum}

-- a text as it is, a number in decimal digits
abbrev pub text_of_piece : Piece → List ℕ
text_of_piece (Text text) = text.now
text_of_piece (Number n) = decimal n
text_of_piece (Sum n) = decimal n
