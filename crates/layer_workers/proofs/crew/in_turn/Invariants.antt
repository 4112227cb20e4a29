use Rattle.std.proofs.Common.{◌≡◌, ◌+◌}
use Rattle.layer_workers.specs.Answers.{cost_below, AreAnswers}
use Rattle.layer_workers.proofs.crew.in_turn.Given as goal

abbrev pub invariant-loop-number : goal.invariant-loop-number
invariant-loop-number g l = record {
  all : AreAnswers (g.P.Piece.answers l.piece) l.number l.outs.items;
  steps : l.steps.count ≡ l.initial.steps.count + cost_below (g.P.Piece.cost l.piece) l.number;
  out : l.steps.out ≡ l.initial.steps.out;
}
