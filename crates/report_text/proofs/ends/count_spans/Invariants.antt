use Rattle.std.proofs.Common.{◌≡◌, ◌≤◌, ◌*◌, ◌-◌, ◌^◌, length, take, map}
use Rattle.std.specs.Prelude.{sum_by}
use Rattle.span_algebra.specs.Normal.{pairs}
use Rattle.report_text.proofs.ends.count_spans.Given as goal

abbrev pub invariant-loop-spans : goal.invariant-loop-spans
invariant-loop-spans l = (l.count ≡ sum_by length (map pairs (take l.spans-index l.rows)))
    × (l.count ≤ l.spans-index * (2 ^ 64 - 1))
