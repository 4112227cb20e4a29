use Rattle.std.proofs.Common.{◌∙◌, sym}
use Rattle.csv.specs.Records.{fields_of}
use Rattle.stream_read.proofs.FieldPlaces.{no_field_left, field_is_left}
use Rattle.stream_read.proofs.fields.Fields.next.Goals as goal

pub returns-in_err-field : goal.returns-in_err-field
returns-in_err-field c =
    let none = rw c.in_err-field.was at c.get.ensures.value in
    rw c.from_residual.ensures (sym c.self.view_is ∙ no_field_left c.self.inside.at
    (fields_of c.self.inside.row.now) (sym none))

pub returns : goal.returns
returns c = sym c.self.view_is ∙ field_is_left c.self.inside.at (fields_of c.self.inside.row.now)
    c.in_ok-field.field.now (sym c.in_ok-field.ensures.value)
