use Rattle.std.proofs.Common.{◌≡◌, subst, sym, map, rules, Err, IfErr, true}
use Rattle.rule_forms.specs.Forms.{plain}
use Rattle.decl_known.specs.Checked.{plain_checked}
use Rattle.rtec_main.specs.Reads.{IsDescriptionRefused, has_described_limit, unlayered, ungrounded}
use Rattle.rtec_main.proofs.Describing.{unlayered_is_refused, ungrounded_limit}
use Rattle.rtec_main.proofs.inputs.description_of.Goals as goal

pub returns-in_err-layers-clause-err : goal.returns-in_err-layers-clause-err
returns-in_err-layers-clause-err c =
    let refused = unlayered_is_refused c.args.text.now (map plain c.in_ok-syntax.syntax.statements)
    (plain_checked c.in_ok-checked.checked)
    c.in_err-layers.field-0.0 c.in_ok-syntax.ensures.exact c.in_ok-checked.ensures.exact
    c.in_err-layers.ensures.cyclic in
    let same : c.from_residual-in_err-layers.result ≡ Err (unlayered c.in_err-layers.field-0.0) =
    search (rules, c.from_residual-in_err-layers.ensures) in
    subst (λ r. IfErr r (IsDescriptionRefused c.args.text.now)) (sym same) refused

pub returns-in_err-program-clause-limit : goal.returns-in_err-program-clause-limit
returns-in_err-program-clause-limit c =
    let limited = ungrounded_limit (plain_checked c.in_ok-checked.checked)
    c.in_ok-layers.layers.of_name c.in_err-program.field-0.0 c.in_err-program.ensures.exact in
    let same : c.from_residual-in_err-program.result ≡ Err (ungrounded c.in_err-program.field-0.0)
    = search (rules, c.from_residual-in_err-program.ensures) in
    subst (λ r. IfErr r (λ refused. has_described_limit refused ≡ true)) (sym same) limited
