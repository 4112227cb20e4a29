use Rattle.std.proofs.Common.{◌+◌, ◌<◌, ◌++◌, flat_map, get_or, length, arith, ap, subst, ◌∙◌}
use Rattle.ground_rules.specs.Assignments.{instances}
use Rattle.ground_rules.specs.Grounded.{plain_program}
use Rattle.ground_rules.specs.Listed.{clauses_in}
use Rattle.ground_text.specs.GroundText.{layer_text}
use Rattle.ground_text.proofs.GroundLines.{numbered_more, numbered_all}
use Rattle.ground_text.proofs.printing.Listing.put_layers.Goals as goal

pub loop-place-preserved : goal.loop-place-preserved
loop-place-preserved c =
    numbered_more (layer_text (plain_program c.args.self.now.program.now)
    (flat_map instances (clauses_in c.args.self.now.instances.now)))
    c.args.self.now.program.now.layers c.loop-place.place c.units-item.result
    c.args.out.now.items c.loop-place.out.items c.put_layer.new.out.items
    (subst (λ layers. c.loop-place.place < length layers) c.as_slice-units-items.ensures
    c.loop-place-test.true)
    (c.units-item.is ∙ ap (λ layers. get_or layers c.loop-place.place c.units-item.result)
    c.as_slice-units-items.ensures) c.loop-place.invariant
    (c.in_ok-put_layer.ensures
    ∙ ap (λ units. c.loop-place.out.items ++ layer_text (plain_program c.args.self.now.program.now)
    (flat_map instances (clauses_in c.args.self.now.instances.now)) (c.loop-place.place + 1, units))
    c.as_slice.ensures)

pub returns : goal.returns
returns c =
    c.loop-place.invariant
    ∙ ap (λ layers. c.args.out.now.items
    ++ flat_map (layer_text (plain_program c.args.self.now.program.now)
    (flat_map instances (clauses_in c.args.self.now.instances.now))) layers)
    (numbered_all c.args.self.now.program.now.layers c.loop-place.place
    (omega (arith, c.loop-place-test.false, ap length c.as_slice-units-items.ensures)))
