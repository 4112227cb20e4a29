use Rattle.std.proofs.Common.{◌++◌, flat_map, map, take, ap, ◌∙◌}
use Rattle.std.specs.List.{enumerate_from}
use Rattle.ground_rules.specs.Assignments.{instances}
use Rattle.ground_rules.specs.Clauses.{clause_of}
use Rattle.ground_rules.specs.Grounded.{units_by}
use Rattle.ground_rules.specs.Origins.{has_units_below}
use Rattle.ground_rules.proofs.ByOrigin.{are_few, are_origins, passes_here, one_name_more}
use Rattle.ground_rules.proofs.units.units_of.Goals as goal

pub origins_of-requires : goal.origins_of-requires
origins_of-requires c = are_few (map clause_of c.args.clauses.now) c.requires.assignments

pub add_units-requires-clause-few : goal.add_units-requires-clause-few
add_units-requires-clause-few c = are_few (map clause_of c.args.clauses.now) c.requires.assignments

pub add_units-requires-clause-origins : goal.add_units-requires-clause-origins
add_units-requires-clause-origins c = (are_origins (map clause_of c.args.clauses.now) c.args.count
    c.in_ok-origins.origins c.in_ok-origins.ensures).1

pub add_units-requires-clause-below : goal.add_units-requires-clause-below
add_units-requires-clause-below c =
    let len = (are_origins (map clause_of c.args.clauses.now) c.args.count c.in_ok-origins.origins
    c.in_ok-origins.ensures).0 in
    let name = c.index-names-place in
    ap (λ n. has_units_below c.args.domains.now n name.result) len
    ∙ passes_here (has_units_below c.args.domains.now c.args.count) c.args.names.now
    c.loop-place.place name.result c.requires.below c.loop-place-test.true name.is

pub loop-place-preserved : goal.loop-place-preserved
loop-place-preserved c =
    let all = flat_map instances (map clause_of c.args.clauses.now) in
    let domains = c.args.domains.now in
    let names = c.args.names.now in
    let place = c.loop-place.place in
    let name = c.index-names-place in
    c.in_ok-add_units.ensures
    ∙ ap (λ us. us ++ units_by domains all (place, name.result)) c.loop-place.invariant
    ∙ ap (λ n. flat_map (units_by domains all) (enumerate_from 0 (take place names)) ++ units_by
    domains all (place, n)) name.is
    ∙ one_name_more domains all names place name.result c.loop-place-test.true
