use Rattle.std.proofs.Common.{ap, sym, ◌∙◌, get_or, map}
use Rattle.rule_forms.specs.Forms.{plain_form}
use Rattle.ground_rules.specs.Assignments.{variables_of, domain_of}
use Rattle.ground_rules.specs.Declarations.{clause_by}
use Rattle.ground_rules.proofs.VariableDomains.{without_place, at_place}
use Rattle.ground_rules.proofs.clause.Clause.domain.Goals as goal

pub returns-in-Some : goal.returns-in-Some
returns-in-Some c =
    let self = c.args.self.now in
    let domain = domain_of (clause_by self.known.now self.form.now) in
    let at = at_place domain (variables_of (plain_form self.form.now)) c.args.variable.now
    c.in-Some.place c.index.result.now (sym c.place.ensures ∙ c.in-Some.is) in
    c.index.ensures ∙ ap (λ domains. get_or domains c.in-Some.place c.index.result.now)
    (self.domains_are ∙ ap (map domain) self.variables_are) ∙ at.1

pub returns-in-None : goal.returns-in-None
returns-in-None c =
    sym (without_place c.args.self.now.known.now.names.now (plain_form c.args.self.now.form.now)
    c.args.variable.now (sym c.place.ensures ∙ c.in-None.is))
