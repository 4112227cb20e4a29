use Rattle.std.proofs.Common.{◌≡◌, ◌++◌, length, take, map, slice_get}
use Rattle.std.specs.Prelude.{flat_map, zip}
use Rattle.span_algebra.specs.Normal.{pairs}
use Rattle.text_pieces.specs.Atoms.{unit_atom}
use Rattle.text_pieces.specs.Lines.{text_of_lines}
use Rattle.report_text.specs.Report.{value_words, fluent_lines, behind}
use Rattle.report_text.proofs.rows.put_fluents.Given as goal

abbrev pub invariant-loop-value : goal.invariant-loop-value
invariant-loop-value l =
    l.out.items
    ≡ l.fn.out.items
    ++ text_of_lines
    (flat_map (λ row. behind l.lead (fluent_lines l.q (unit_atom l.program l.unit) row))
    (take (length l.yielded) (zip (value_words (slice_get l.program.names l.unit.name))
    (map pairs l.rows))))
