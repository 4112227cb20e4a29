use Rattle.std.proofs.Common.{Some, slice_get, sym, ◌∙◌, ap}
use Rattle.std.proofs.lemmas.Option.{slice_get-get_or}
use Rattle.query_ask.specs.Right.{Parts}
use Rattle.query_ask.proofs.RowCounts.{unit_has_rows}
use Rattle.query_ask.proofs.publication.Publication.rows.Goals as goal

pub bounds-as_slice-unit : goal.bounds-as_slice-unit
bounds-as_slice-unit c =
    unit_has_rows _ _ _ c.args.unit c.self.view_is c.self.invariant c.as_slice.ensures
    c.requires.unit

pub returns-clause-row : goal.returns-clause-row
returns-clause-row c =
    sym (ap (λ (p : Parts). slice_get p.rows c.args.unit) c.self.view_is)
    ∙ sym (ap (λ r. slice_get r c.args.unit) c.as_slice.ensures)
    ∙ slice_get-get_or _ c.args.unit c.index-as_slice-unit.result
    (unit_has_rows _ _ _ c.args.unit c.self.view_is c.self.invariant c.as_slice.ensures
    c.requires.unit)
    ∙ ap Some (sym c.index-as_slice-unit.is)
