use Rattle.std.proofs.Common.{◌≡◌, find, option_map, ap, sym, ◌∙◌, rules, tests, Bor}
use Rattle.std.proofs.lemmas.Iterator.{YieldsList-from_slice}
use Rattle.std.proofs.lemmas.Iterator.Search.{find_from_yields_List}
use Rattle.std.specs.Str.{bytes_eq}
use Rattle.decl_known.specs.declared.variables.Place.{Place}
use Rattle.decl_known.specs.Gathered.{place_of, places_of}
use Rattle.ground_rules.specs.Assignments.{number_at}
use Rattle.ground_rules.proofs.VariableDomains.{find_place}
use Rattle.ground_rules.proofs.clause.domain_among.Goals.{After-find}
use Rattle.ground_rules.proofs.clause.domain_among.Goals as goal

-- the place that was found is the first of the variable
first_place : (c : After-find) → find (λ place. bytes_eq place.0 c.args.variable.now)
    (places_of c.args.places.now) ≡ option_map place_of (option_map (λ (place : Bor Place).
    place.now) c.find.result)
first_place c =
    let found : option_map (λ (place : Bor Place). place.now) c.find.result
    ≡ find (λ (place : Place). bytes_eq place.variable.now c.args.variable.now) c.args.places.now
    =
    find_from_yields_List (λ (place : Place). bytes_eq place.variable.now c.args.variable.now) _ _
    c.find.result c.find.ensures.ran (YieldsList-from_slice c.args.places.now cc) (λ x b q k.
    search (rules, tests)) in
    find_place c.args.variable.now c.args.places.now ∙ ap (option_map place_of) (sym found)

pub returns-in-Some : goal.returns-in-Some
returns-in-Some c = sym (ap number_at (first_place (goal.at.returns-in-Some c).After-find
    ∙ ap (λ o. option_map place_of (option_map (λ (place : Bor Place). place.now) o))
    c.in-Some.is))

pub returns-in-None : goal.returns-in-None
returns-in-None c = sym (ap number_at (first_place (goal.at.returns-in-None c).After-find
    ∙ ap (λ o. option_map place_of (option_map (λ (place : Bor Place). place.now) o))
    c.in-None.is))
