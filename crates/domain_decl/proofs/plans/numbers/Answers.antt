use Rattle.std.proofs.Common.{◌≡◌, ◌∙◌, ap, ap₂, sym, map, take, ◌+◌}
use Rattle.rule_forms.specs.Forms.{plain, plain_form}
use Rattle.domain_decl.specs.Given.{number_in, given_by, with_number}
use Rattle.domain_decl.specs.Plans.{all_in}
use Rattle.domain_decl.proofs.Prefixes.{filter_map-next}
use Rattle.domain_decl.proofs.Numbers.{given_by-next}
use Rattle.domain_decl.proofs.plans.numbers.Goals as goal

pub loop-statement-preserved : goal.loop-statement-preserved
loop-statement-preserved c =
    let before = map plain (take c.loop-statement.statement-index c.args.statements.now) in
    let next = number_in c.args.kind (plain_form c.statement-item.result.form) in
    let step : given_by (all_in (number_in c.args.kind)
    (map plain (take (c.loop-statement.statement-index + 1) c.args.statements.now)))
    ≡ with_number (given_by (all_in (number_in c.args.kind) before)) next =
    ap given_by (filter_map-next c.args.statements.now c.loop-statement.statement-index
    c.statement-item.result c.loop-statement-test.true c.statement-item.is
    (λ s. number_in c.args.kind s.form))
    ∙ given_by-next (all_in (number_in c.args.kind) before) next in
    c.with-given.ensures ∙ ap₂ with_number c.loop-statement.invariant c.number_in.ensures ∙ sym step
