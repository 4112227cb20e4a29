use Rattle.std.proofs.Common.{◌≡◌, ℕ, ◌+◌, ◌<◌, ◌≤◌, List, ◌++◌, length, get_or, slice_get, Some}
use Rattle.std.proofs.Common.{refl}
use Rattle.std.proofs.Common.{sym, subst, ◌∙◌, ap, ap₂, arith, take}
use Rattle.std.specs.Prelude.{flat_map}
use Rattle.std.specs.List.{zip}
use Rattle.std.proofs.lemmas.List.{length-map}
use Rattle.std.proofs.lemmas.Option.{slice_get_read, slice_get_within, get_or_from_slice_get}
use Rattle.ground_types.specs.Windows.{right}
use Rattle.ground_types.specs.Publication.{PublishedRows}
use Rattle.ground_types.specs.declared.program.Program.{Program}
use Rattle.ground_types.specs.declared.program.Unit.{Unit as ProgramUnit}
use Rattle.query_ask.specs.Right.{Parts, published, IsRightForItself}
use Rattle.span_algebra.specs.declared.rows.UnitRows.{UnitRows}
use Rattle.text_pieces.specs.Lines.{text_of_lines}
use Rattle.text_pieces.proofs.LineTexts.{zip_push, zip_whole, grown}
use Rattle.report_text.specs.Report.{unit_lines, row_lines, behind}
use Rattle.report_text.specs.Printed.{rows_in}
use Rattle.report_text.proofs.Counts.{rows_for_each}
use Rattle.report_text.proofs.Leads.{behind_flat}
use Rattle.report_text.proofs.rows.put_rows.Goals as goal

-- the lines of a unit and its rows, behind a lead
abbrev lines : List ℕ → Parts → ℕ → ProgramUnit × PublishedRows → List (List ℕ)
lines lead parts q p = behind lead (unit_lines parts.program q p.0 p.1)

-- those of one unit more
one_more : (lead : List ℕ) (parts : Parts) (q i : ℕ) (units : List ProgramUnit) (unit : ProgramUnit)
    (row : UnitRows) → units ≡ parts.program.units → i < length units → unit ≡ get_or units i unit
    → slice_get parts.rows i ≡ Some row →
    text_of_lines (flat_map (lines lead parts q) (take (i + 1) (zip parts.program.units
    (rows_in parts))))
    ≡ text_of_lines (flat_map (lines lead parts q) (take i (zip parts.program.units (rows_in parts))))
    ++ text_of_lines (behind lead (unit_lines parts.program q unit (published row)))
one_more lead parts q i units unit row are inside is at =
    let found : slice_get parts.program.units i ≡ Some unit =
    subst (λ (l : List ProgramUnit). slice_get l i ≡ Some unit) are
    (slice_get_read units (length units) i unit refl inside is) in
    zip_push (lines lead parts q) published parts.program.units parts.rows i unit row (
      slice_get_within parts.program.units i unit found,
      slice_get_within parts.rows i row at,
      λ d. sym (get_or_from_slice_get parts.program.units i unit d found),
      λ d. sym (get_or_from_slice_get parts.rows i row d at),
    )
    (i + 1) refl

pub loop-number-preserved : goal.loop-number-preserved
loop-number-preserved c =
    let parts = c.args.publication.now in
    let i = c.loop-number.number in
    let q = c.right-q.result in
    let are = c.as_slice-unit-items.ensures ∙ ap (λ (p : Program). p.units)
    (c.deref-2.ensures ∙ c.program-program.ensures) in
    let made = c.as_slice.ensures.value ∙ c.in_ok-put_unit.ensures
    ∙ ap (λ (l : List ℕ). l ++ text_of_lines (behind c.args.lead.now
    (unit_lines c.deref-in-loop-number.result.now q c.unit-item.result
    (published c.rows.result.now)))) c.clear.ensures.items
    ∙ ap (λ (p : Program). text_of_lines (behind c.args.lead.now (unit_lines p q
    c.unit-item.result (published c.rows.result.now)))) (c.deref-in-loop-number.ensures ∙ c.program-program.ensures) in
    grown c.args.out.now.items _ _ _ _ c.loop-number.invariant
    (c.in_ok-append.ensures.added ∙ ap (λ (l : List ℕ). c.loop-number.out.items ++ l) made)
    ∙ ap (λ (l : List ℕ). c.args.out.now.items ++ l)
    (sym (one_more c.args.lead.now parts q i c.as_slice-unit-items.result.now c.unit-item.result c.rows.result.now
    are c.loop-number-test.true c.unit-item.is c.rows.ensures.row))

-- those of all units
all_units : (lead : List ℕ) (parts : Parts) (q i : ℕ) (units : List ProgramUnit)
    → units ≡ parts.program.units → IsRightForItself parts → i ≤ length units → length units ≤ i →
    text_of_lines (flat_map (lines lead parts q) (take i (zip parts.program.units (rows_in parts))))
    ≡ text_of_lines (behind lead (row_lines parts.program q (rows_in parts)))
all_units lead parts q i units are fits low high =
    ap (λ (l : List (ProgramUnit × PublishedRows)). text_of_lines (flat_map (lines lead parts q) l))
    (zip_whole published parts.program.units parts.rows i
    (omega (
      arith,
      low,
      high,
      ap length are,
      rows_for_each parts fits,
      length-map parts.rows published,
    )))
    ∙ ap text_of_lines (sym (behind_flat lead (λ (p : ProgramUnit × PublishedRows).
    unit_lines parts.program q p.0 p.1) (zip parts.program.units (rows_in parts))))

pub returns-clause-added : goal.returns-clause-added
returns-clause-added c =
    let parts = c.args.publication.now in
    let are = c.as_slice-unit-items.ensures ∙ ap (λ (p : Program). p.units)
    (c.deref-2.ensures ∙ c.program-program.ensures) in
    let q : c.right-q.result ≡ right parts.program.plan parts.number =
    c.right-q.ensures ∙ ap₂ (λ (p : Program) (n : ℕ). right p.plan n)
    (c.deref.ensures ∙ c.program-program.ensures) c.number.ensures.number in
    c.loop-number.invariant
    ∙ ap (λ (l : List ℕ). c.args.out.now.items ++ l)
    (all_units c.args.lead.now parts c.right-q.result c.loop-number.number c.as_slice-unit-items.result.now are
    c.number.ensures.right (omega (arith, c.loop-number.auto.number-end)) c.loop-number-test.false
    ∙ ap (λ n. text_of_lines (behind c.args.lead.now (row_lines parts.program n
    (rows_in parts)))) q)
