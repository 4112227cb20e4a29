use Rattle.std.proofs.Common.{◌∙◌, ap}
use Rattle.domain_decl.specs.Contents.{domain_in}
use Rattle.domain_decl.proofs.Prefixes.{filter_map-next}
use Rattle.decl_known.proofs.Gathering.{grown, kept}
use Rattle.domain_decl.proofs.contents.domains_of.Goals.{in-Some+in_ok-push, in_default}
use Rattle.domain_decl.proofs.contents.domains_of.Goals as goal

pub loop-statement-preserved : goal.loop-statement-preserved
loop-statement-preserved c =
    let next = filter_map-next c.args.statements.now c.loop-statement.statement-index
    c.statement-item.result c.loop-statement-test.true c.statement-item.is
    (λ s. domain_in s.form) in
    elim c.match-branch-2.branch [
      | in-Some+in_ok-push w ↦ grown _ _ _ c.in_ok-domain.field-0 next c.in_ok-domain.ensures
          c.loop-statement.domains.items c.loop-statement.invariant w.in-Some.domain
          c.match-branch-2.domains.items w.in-Some.is (ap (λ v. v.items) w.domains-is
          ∙ w.in_ok-push.ensures.items)
      | in_default w ↦ ap (λ v. v.items) w.domains-is ∙ kept _ _ _ c.in_ok-domain.field-0 next
          c.in_ok-domain.ensures c.loop-statement.domains.items c.loop-statement.invariant
          w.in_default.is
    ]
