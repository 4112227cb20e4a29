use Rattle.std.proofs.Common.{ap, ◌∙◌, map, rules, tests, Bor}
use Rattle.std.proofs.lemmas.Iterator.{YieldsList-from_slice}
use Rattle.std.proofs.lemmas.Iterator.Search.{position_from_yields_List}
use Rattle.std.specs.Str.{bytes_eq}
use Rattle.rt_base.specs.declared.words.Word.{Word}
use Rattle.ground_types.specs.Words.{place_in}
use Rattle.ground_rules.proofs.VariableDomains.{position_of_items}
use Rattle.ground_rules.proofs.clause.Clause.place.Goals as goal

pub returns : goal.returns
returns c =
    position_from_yields_List (λ (other : Bor Word). bytes_eq other.now c.args.variable.now) _ _ _
    c.position.ensures.ran (YieldsList-from_slice c.deref.result.now cc) (λ x b q k.
    search (rules, tests))
    ∙ position_of_items (λ (other : Bor Word). other.now) c.args.variable.now c.deref.result.now
    ∙ ap (λ words. place_in words c.args.variable.now) (ap (map (λ (other : Bor Word). other.now))
    c.deref.ensures.value ∙ c.args.self.now.variables_are)
