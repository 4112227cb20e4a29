use Rattle.std.proofs.Common.{◌≡◌, ap, sym, ◌∙◌, arith}
use Rattle.ground_types.specs.Words.{place_in, entities_of}
use Rattle.ground_rules.specs.LentInstances.{instance_of}
use Rattle.ground_rules.specs.Atoms.{or_zero, ground_term}
use Rattle.ground_rules.proofs.DeclaredSizes.{few_entities, entity_small}
use Rattle.ground_rules.proofs.instance.Instance.term.Goals.{After-entity}
use Rattle.ground_rules.proofs.instance.Instance.term.Goals as goal

-- the entity that was found is that of the word in the domain
found : (c : After-entity) → place_in (entities_of c.args.self.now.clause.now.known.now.domains.now
    c.args.domain) c.in-Entity.word ≡ c.entity.result
found c =
    let domains = c.args.self.now.clause.now.known.now.domains.now in
    ap (λ l. place_in (entities_of l c.args.domain) c.in-Entity.word) (sym c.known.ensures.domains)
    ∙ sym (c.entity.ensures (rw c.known.ensures.domains (few_entities domains c.args.domain
    c.known.ensures.declarations.sound_domains).distinct))

-- and so the term stands for it
term_is : (c : After-entity) → ground_term (instance_of c.args.self.now) c.args.term.now
    c.args.domain ≡ or_zero c.entity.result
term_is c =
    ap (λ t. ground_term (instance_of c.args.self.now) t c.args.domain) c.in-Entity.is
    ∙ ap or_zero (found c)

pub overflow_cast-result : goal.overflow_cast-result
overflow_cast-result c =
    let small = entity_small c.args.self.now.clause.now.known.now.domains.now c.args.domain
    c.in-Entity.word c.in-Some.entity c.known.ensures.declarations.sound_domains
    (found (goal.at.overflow_cast-result c).After-entity ∙ c.in-Some.is) in
    omega (arith, small)

pub returns-in-Some : goal.returns-in-Some
returns-in-Some c = sym (term_is (goal.at.returns-in-Some c).After-entity ∙ ap or_zero
    c.in-Some.is)

pub returns-in-None : goal.returns-in-None
returns-in-None c = sym (term_is (goal.at.returns-in-None c).After-entity ∙ ap or_zero
    c.in-None.is)
