use Rattle.std.proofs.Common.{◌≡◌, ◌++◌, take}
use Rattle.std.specs.Prelude.{flat_map}
use Rattle.std.specs.List.{zip}
use Rattle.text_pieces.specs.Lines.{text_of_lines}
use Rattle.report_text.specs.Report.{unit_lines, behind}
use Rattle.report_text.specs.Printed.{rows_in}
use Rattle.report_text.proofs.rows.put_rows.Given as goal

abbrev pub invariant-loop-number : goal.invariant-loop-number
invariant-loop-number l =
    l.out.items
    ≡ l.fn.out.items
    ++ text_of_lines
    (flat_map (λ unit. behind l.lead (unit_lines l.publication.program l.q unit.0 unit.1))
    (take l.number (zip l.publication.program.units (rows_in l.publication))))
