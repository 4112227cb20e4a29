use Rattle.std.proofs.Common.{◌++◌, get_or, map, slice_get, ap, sym, ◌∙◌}
use Rattle.std.proofs.lemmas.Option.{slice_get-map}
use Rattle.ground_rules.specs.Grounded.{plain_unit}
use Rattle.ground_rules.specs.Listed.{listed_at}
use Rattle.ground_text.specs.GroundText.{numbered_text}
use Rattle.ground_text.proofs.GroundLines.{number_more}
use Rattle.ground_text.proofs.printing.Listing.put_layer.Goals as goal

pub loop-unit-preserved : goal.loop-unit-preserved
loop-unit-preserved c =
    let program = c.args.self.now.program.now in
    let number = get_or c.args.units.now c.loop-unit.unit-index 0 in
    number_more (λ unit. numbered_text program.domains program.names c.args.layer
    (slice_get (map plain_unit program.units) unit) (listed_at c.args.self.now.instances.now unit))
    c.args.units.now c.loop-unit.unit-index c.args.out.now.items c.loop-unit.out.items
    c.put_numbered.new.out.items c.loop-unit-test.true c.loop-unit.invariant
    (c.in_ok-put_numbered.ensures
    ∙ ap (λ unit. c.loop-unit.out.items ++ numbered_text program.domains program.names c.args.layer
    unit (listed_at c.args.self.now.instances.now number))
    (sym (slice_get-map plain_unit program.units number)))
