use Rattle.std.proofs.Common.{rules, ◌≡◌, ◌∙◌, ap, ap₂, codes, true}
use Rattle.clap.specs.Words.{app_of, rule_of, with_rule}
use Rattle.clap.specs.Simple.{app_of_fields, on_top}
use Rattle.command_words.specs.Matching.{places_rule, valued_rule, flag_rule, bare}
use Rattle.std.proofs.lemmas.Result.{IfOk-weaker}
use Rattle.command_words.proofs.matching.grammar.Goals as goal

pub returns : goal.returns
returns c =
    let places_is : rule_of c.action-places.result ≡ places_rule = search rules in
    let workers_is : rule_of c.long-workers.result ≡ valued_rule (codes "workers") = search rules in
    let feeders_is : rule_of c.long-feeders.result ≡ valued_rule (codes "feeders") = search rules in
    let full_is : rule_of c.action-full.result ≡ flag_rule (codes "full") = search rules in
    let bare_is : app_of c.disable_help_flag.result ≡ bare =
    ap app_of_fields c.disable_help_flag.ensures
    ∙ ap (on_top (λ s. record s { disable_help_flag = true })) c.new-5.ensures.app in
    let one : app_of c.in_ok-arg.field-0 ≡ with_rule bare places_rule =
    c.in_ok-arg.ensures.shape (search rules) ∙ ap₂ with_rule bare_is places_is in
    let two : app_of c.in_ok-arg-2.field-0 ≡ with_rule (with_rule bare places_rule)
    (valued_rule (codes "workers")) =
    c.in_ok-arg-2.ensures.shape (search rules) ∙ ap₂ with_rule one workers_is in
    let three : app_of c.in_ok-arg-3.field-0 ≡ with_rule (with_rule (with_rule bare places_rule)
    (valued_rule (codes "workers"))) (valued_rule (codes "feeders")) =
    c.in_ok-arg-3.ensures.shape (search rules) ∙ ap₂ with_rule two feeders_is in
    IfOk-weaker c.arg-4.result _ _ (λ command adds. adds.shape (search rules)
    ∙ ap₂ with_rule three full_is) c.arg-4.ensures
