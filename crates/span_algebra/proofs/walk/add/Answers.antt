use Rattle.std.proofs.Common.{◌≡◌, ap₂, arith}
use Rattle.std.proofs.lemmas.List.Elements.{All-cons}
use Rattle.std.proofs.lemmas.List.Sorted.{All-permutation, sum_by_pushed}
use Rattle.span_algebra.specs.Normal.{covers}
use Rattle.span_algebra.specs.Walk.{one_on, IsBefore}
use Rattle.span_algebra.proofs.walk.add.Goals as goal

pub returns-in_ok-push-clause-cursors : goal.returns-in_ok-push-clause-cursors
returns-in_ok-push-clause-cursors c =
    let is = c.in-Some.ensures.some in
    let before : IsBefore c.in-Some.cursor = (rw is.2 c.requires.normal, is.1, is.0) in
    record {
      ordered = c.in_ok-push.ensures.heap_order c.requires.cursors.ordered;
      before = All-permutation IsBefore _ _ c.in_ok-push.ensures.permutation
          (All-cons IsBefore _ _ before c.requires.cursors.before);
    }

pub returns-in_ok-push-clause-each : goal.returns-in_ok-push-clause-each
returns-in_ok-push-clause-each c = λ side t.
    let is = c.in-Some.ensures.some in
    let pushed = sum_by_pushed (λ c. one_on side (covers c.left.now t) c.side) _ _ _
    c.in_ok-push.ensures.permutation in
    let same : one_on side (covers c.in-Some.cursor.left.now t) c.in-Some.cursor.side
    ≡ one_on side (covers c.args.spans.now t) c.args.side =
    ap₂ (λ spans b. one_on side (covers spans t) b) is.2 is.3 in
    omega (arith, pushed, same)
