use Rattle.std.proofs.Common.{◌≡◌, ◌++◌, take}
use Rattle.std.specs.Prelude.{flat_map}
use Rattle.span_algebra.specs.Normal.{pairs}
use Rattle.report_text.specs.Report.{span_text}
use Rattle.report_text.proofs.rows.put_spans.Given as goal

abbrev pub invariant-loop-span : goal.invariant-loop-span
invariant-loop-span l = l.out.items ≡ l.fn.out.items ++ flat_map (span_text l.q)
    (pairs (take l.span-index l.spans))
