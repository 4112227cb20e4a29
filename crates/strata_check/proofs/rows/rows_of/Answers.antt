use Rattle.std.proofs.Common.{◌∷◌, [], ◌++◌, map, take, ap, sym, ◌∙◌}
use Rattle.std.proofs.lemmas.List.{take_more, map-append}
use Rattle.rule_forms.specs.Forms.{plain}
use Rattle.strata_check.proofs.Places.{one_more_rule}
use Rattle.strata_check.proofs.rows.rows_of.Goals as goal

pub loop-rule-preserved : goal.loop-rule-preserved
loop-rule-preserved c =
    let i = c.loop-rule.rule-index in
    let rules = c.args.rules.now in
    one_more_rule c.args.known.now.names.now c.loop-rule.rows.items c.add_rule.new.rows.items
    (map plain (take i rules)) _ (plain c.rule-item.result) c.requires c.loop-rule.invariant
    c.in_ok-add_rule.ensures
    (ap (map plain) (take_more rules i c.rule-item.result c.loop-rule-test.true
    ∙ ap (λ r. take i rules ++ r ∷ []) (sym c.rule-item.is)) ∙ map-append plain (take i rules)
    (c.rule-item.result ∷ []))
