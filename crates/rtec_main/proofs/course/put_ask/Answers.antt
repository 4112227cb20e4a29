use Rattle.std.proofs.Common.{◌≡◌, ◌++◌, List, ℕ, map, sym, subst}
use Rattle.std.specs.Arc.{arc_value}
use Rattle.std.proofs.lemmas.Result.{on_ok_weaker}
use Rattle.query_ask.specs.Right.{Parts}
use Rattle.query_ask.specs.Answers.{IsAsked}
use Rattle.text_pieces.specs.Lines.{text_of_lines}
use Rattle.report_text.specs.Printed.{AreSound}
use Rattle.rtec_main.proofs.Courses.{asked_there, sound_there, asked_text}
use Rattle.rtec_main.proofs.course.put_ask.Goals as goal

pub ask-answer-requires : goal.ask-answer-requires
ask-answer-requires c = subst (λ (list : List Parts). IsAsked list c.args.query.now)
    (sym c.list-list.ensures.list)
    (asked_there c.args.course.now c.args.query.now c.requires.sound c.requires.abreast
    c.requires.of_program)

pub put_answer-requires : goal.put_answer-requires
put_answer-requires c = record {
  sound = subst AreSound (sym c.list-list.ensures.list)
      (sound_there c.args.course.now c.requires.sound c.requires.abreast);
}

pub returns : goal.returns
returns c =
    on_ok_weaker c.put_answer.result
    (subst (λ (lines : List (List ℕ)). c.put_answer.new.out.items
    ≡ c.args.text.now.items ++ text_of_lines lines)
    (asked_text c.args.course.now c.args.query.now c.ask-answer.result c.program.result.now
    (map arc_value c.list-list.result.now) c.requires.abreast c.answer_law.ensures
    c.program.ensures c.list-list.ensures.list c.ask-answer.ensures))
    c.put_answer.ensures.added
