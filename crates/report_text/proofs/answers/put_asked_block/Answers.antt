use Rattle.std.proofs.Common.{◌≡◌, List, ℕ, map, ◌++◌, subst}
use Rattle.std.specs.Arc.{arc_value}
use Rattle.std.proofs.lemmas.Result.{on_ok_weaker}
use Rattle.text_pieces.specs.Lines.{text_of_lines}
use Rattle.report_text.proofs.Answering.{made_of, asked_is}
use Rattle.report_text.proofs.answers.put_asked_block.Goals as goal

pub put_pieces-requires : goal.put_pieces-requires
put_pieces-requires c =
    let found = c.in-Some.ensures.lookup.3 in
    record {
      sound = rw c.deref.ensures (c.requires.sound c.in-Block.number
          (arc_value c.in-Some.publication.now)
          (made_of arc_value c.args.list.now c.in-Block.number c.in-Some.publication.now found.0
          (found.1 c.in-Some.publication.now)));
    }

pub returns-clause-added : goal.returns-clause-added
returns-clause-added c =
    let found = c.in-Some.ensures.lookup.3 in
    on_ok_weaker c.put_pieces.result
    (subst (λ (lines : List (List ℕ)). c.put_pieces.new.out.items
    ≡ c.args.out.now.items ++ text_of_lines lines)
    (asked_is (map arc_value c.args.list.now) c.args.answer.now c.in-Block.number
    (arc_value c.in-Some.publication.now) c.deref.result.now c.in-Block.is
    (made_of arc_value c.args.list.now c.in-Block.number c.in-Some.publication.now found.0
    (found.1 c.in-Some.publication.now)) c.deref.ensures))
    c.put_pieces.ensures.added
