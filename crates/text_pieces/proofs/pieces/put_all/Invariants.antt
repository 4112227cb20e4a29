use Rattle.std.proofs.Common.{◌≡◌, ◌++◌, take}
use Rattle.std.specs.Prelude.{flat_map}
use Rattle.text_pieces.specs.Pieces.{text_of_piece}
use Rattle.text_pieces.proofs.pieces.put_all.Given as goal

abbrev pub invariant-loop-piece : goal.invariant-loop-piece
invariant-loop-piece l = l.out.items ≡ l.fn.out.items ++ flat_map text_of_piece
    (take l.piece-index l.pieces)
