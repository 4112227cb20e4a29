use Rattle.simple_fluent.proofs.Fronts.{after_rises}
use Rattle.simple_fluent.proofs.sweep.terms_past.Goals as goal

pub returns-then-is_same-clause-rising : goal.returns-then-is_same-clause-rising
returns-then-is_same-clause-rising c = rw c.rest_points.ensures (after_rises c.args.left.now
    c.args.at c.requires.left)
