use Rattle.std.proofs.Common.{◌≡◌, ◌+◌, ◌<◌, ◌^◌, option_map, Some, ap, sym, ◌∙◌, arith}
use Rattle.ground_rules.specs.LentInstances.{instance_of}
use Rattle.ground_rules.specs.Atoms.{or_zero}
use Rattle.ground_rules.proofs.ArgumentRanks.{the_place, no_capped, told_place}
use Rattle.ground_rules.proofs.instance.Instance.number.Goals.{In-Some}
use Rattle.ground_rules.proofs.instance.Instance.number.Goals as goal

-- the place that was told is that of the arguments
told : (c : In-Some)
    → (the_place c.args.self.now.clause.now.known.now.domains.now (instance_of c.args.self.now)
    c.args.name.now c.args.terms.now ≡ Some c.in-Some.place)
    × (c.args.name.now.first + c.in-Some.place < 2 ^ 32)
told c =
    let self = c.args.self.now in
    told_place self.clause.now.known.now.domains.now (instance_of self) c.args.name.now
    c.args.terms.now c.in-Some.place c.requires (sym c.place.ensures ∙ c.in-Some.is)

pub overflow_add-result : goal.overflow_add-result
overflow_add-result c = omega (arith, (told (goal.at.overflow_add-result c).In-Some).1)

pub overflow_cast-result : goal.overflow_cast-result
overflow_cast-result c = omega (arith, (told (goal.at.overflow_cast-result c).In-Some).1)

pub returns-in-Some : goal.returns-in-Some
returns-in-Some c = sym (ap (λ o. or_zero (option_map (λ n. c.args.name.now.first + n) o))
    (told (goal.at.returns-in-Some c).In-Some).0)

pub returns-in-None : goal.returns-in-None
returns-in-None c =
    sym (ap (λ o. or_zero (option_map (λ n. c.args.name.now.first + n) o))
    (no_capped _ (sym c.place.ensures ∙ c.in-None.is)))
