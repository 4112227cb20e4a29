use Rattle.std.proofs.Common.{◌∙◌, ap}
use Rattle.rule_forms.specs.Forms.{plain_form}
use Rattle.domain_decl.specs.Contents.{name_in}
use Rattle.ground_types.specs.Words.{domain_words}
use Rattle.domain_decl.proofs.Prefixes.{filter_map-next}
use Rattle.decl_known.proofs.Gathering.{grown, kept}
use Rattle.domain_decl.proofs.contents.names_of.Goals.{in-Some+in_ok-push, in_default}
use Rattle.domain_decl.proofs.contents.names_of.Goals as goal

pub loop-statement-preserved : goal.loop-statement-preserved
loop-statement-preserved c =
    let next = filter_map-next c.args.statements.now c.loop-statement.statement-index
    c.statement-item.result c.loop-statement-test.true c.statement-item.is
    (λ s. name_in (domain_words c.args.domains.now) s.form s.line) in
    let given = c.in_ok-name.ensures ∙ ap (λ words.
    name_in words (plain_form c.statement-item.result.form) c.statement-item.result.line)
    (c.in_ok-words.ensures.distinct c.requires.distinct) in
    elim c.match-branch-3.branch [
      | in-Some+in_ok-push w ↦ grown _ _ _ c.in_ok-name.field-0 next given
          c.loop-statement.names.items c.loop-statement.invariant w.in-Some.name
          c.match-branch-3.names.items w.in-Some.is (ap (λ v. v.items) w.names-is
          ∙ w.in_ok-push.ensures.items)
      | in_default w ↦ ap (λ v. v.items) w.names-is ∙ kept _ _ _ c.in_ok-name.field-0 next given
          c.loop-statement.names.items c.loop-statement.invariant w.in_default.is
    ]
