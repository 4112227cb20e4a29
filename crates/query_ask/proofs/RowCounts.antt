-- A publication has rows for each unit of its program.
use Rattle.std.proofs.Common.{◌≡◌, ◌<◌, ℕ, List, length, sym, ◌∙◌, ap, arith}
use Rattle.std.specs.List.{enumerate_from}
use Rattle.std.proofs.lemmas.List.{length-map}
use Rattle.std.proofs.lemmas.List.FromFn.{length-enumerate_from}
use Rattle.span_algebra.specs.declared.rows.UnitRows.{UnitRows}
use Rattle.query_ask.specs.Right.{Parts, published, IsRightForItself}

rows_for_each : (parts : Parts) → IsRightForItself parts →
    length parts.rows ≡ length parts.program.units
rows_for_each parts right =
    sym (length-map parts.rows published) ∙ ap length right.rows
    ∙ length-map (enumerate_from 0 parts.program.units) _
    ∙ length-enumerate_from 0 parts.program.units

pub unit_has_rows : (seen parts : Parts) (rows : List UnitRows) (unit : ℕ) → parts ≡ seen
    → IsRightForItself parts → rows ≡ parts.rows → unit < length seen.program.units →
    unit < length rows
unit_has_rows seen parts rows unit same right lent within =
    omega (
      arith,
      within,
      ap (λ (p : Parts). length p.program.units) same,
      rows_for_each parts right,
      ap length lent,
    )
