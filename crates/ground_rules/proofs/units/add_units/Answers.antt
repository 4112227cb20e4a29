use Rattle.std.proofs.Common.{◌≡◌, ◌+◌, ◌<◌, ◌∷◌, ℕ, List, [], flat_map, length, slice_get}
use Rattle.std.proofs.Common.{option_map, map, sym, ap, ◌∙◌, arith}
use Rattle.std.proofs.lemmas.List.{map-append}
use Rattle.std.specs.List.{list_all}
use Rattle.ground_types.specs.Sound.{argument_lists, arguments_of, domain_sizes}
use Rattle.ground_rules.specs.Assignments.{instances}
use Rattle.ground_names.specs.Counted.{capped}
use Rattle.ground_rules.specs.Clauses.{clause_of}
use Rattle.ground_rules.specs.Grounded.{plain_unit, kind_by}
use Rattle.ground_rules.specs.Origins.{is_origin, instance_at}
use Rattle.ground_rules.proofs.ByOrigin.{unit_below, mine_are_origins, mine_are_instances}
use Rattle.ground_rules.proofs.ByOrigin.{one_unit_more}
use Rattle.ground_rules.proofs.units.add_units.Goals.{After-get-mine}
use Rattle.ground_rules.proofs.units.add_units.Goals as goal

-- a number below a count of lists is that of one of them
inside_of : (lists : List (List ℕ)) (number count : ℕ) → number < count
    → count ≡ capped (length lists) → number < length lists
inside_of lists number count below is = omega arith

-- the number is that of an argument list of the name
inside : (c : After-get-mine) → c.loop-number.number < length (arguments_of c.args.domains.now
    c.args.name.now)
inside c =
    let domains = c.args.domains.now in
    let lists = ap argument_lists (c.as_slice-2.ensures.value ∙ c.in_ok-sizes.ensures
    ∙ ap (domain_sizes domains) c.as_slice.ensures) in
    inside_of (arguments_of domains c.args.name.now) c.loop-number.number
    c.count_lists-number-end.result c.loop-number-test.true (c.count_lists-number-end.ensures
    ∙ ap (λ ls. capped (length ls)) lists)

-- and so there is a list of origins for its unit
below : (c : After-get-mine) → c.args.name.now.first + c.loop-number.number
    < length c.args.origins.now
below c =
    unit_below c.args.domains.now (length c.args.origins.now) c.args.name.now c.requires.below
    (sym c.is_input.ensures ∙ c.if-is_input.false) c.loop-number.number (inside c)

pub unit_at-requires-clause-origins : goal.unit_at-requires-clause-origins
unit_at-requires-clause-origins c =
    let clauses = map clause_of c.args.clauses.now in
    ap (list_all (is_origin clauses)) c.get-mine.ensures
    ∙ mine_are_origins clauses c.requires.few c.args.origins.now c.requires.origins
    (c.args.name.now.first + c.loop-number.number)
    (below (goal.at.unit_at-requires-clause-origins c).After-get-mine)

pub loop-number-preserved : goal.loop-number-preserved
loop-number-preserved c =
    let clauses = map clause_of c.args.clauses.now in
    let domains = c.args.domains.now in
    let name = c.args.name.now in
    let all = flat_map instances clauses in
    let number = c.loop-number.number in
    let units = c.loop-number.units.items in
    let unit = c.in_ok-unit_at.field-0 in
    let got = (goal.at.loop-number-preserved c).After-get-mine in
    let mine = map (instance_at clauses) c.get-mine.result.now in
    let these = ap argument_lists (c.as_slice-in-loop-number.ensures.value ∙ c.in_ok-sizes.ensures
    ∙ ap (domain_sizes domains) c.as_slice.ensures) in
    let are = ap (map (instance_at clauses)) c.get-mine.ensures ∙ mine_are_instances clauses
    c.requires.few c.args.origins.now c.requires.origins (name.first + number) (below got) in
    let is = ap (λ ls. option_map (λ a. record {
      name = c.args.place;
      args = a;
      kind = kind_by name.kind (length name.values) mine;
    }) (slice_get ls number)) (sym these)
    ∙ c.in_ok-unit_at.ensures in
    ap (map plain_unit) c.in_ok-push.ensures.items
    ∙ map-append plain_unit units (unit ∷ [])
    ∙ one_unit_more all c.args.place name (arguments_of domains name) number (inside got)
    (map plain_unit c.args.units.now.items) (map plain_unit units) (plain_unit unit) mine are is
    c.loop-number.invariant
