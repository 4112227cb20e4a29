use Rattle.std.proofs.Common.{◌≡◌, take, subst, arith, ◌∙◌}
use Rattle.std.proofs.lemmas.Grind.{common_steps}
use Rattle.word_table.specs.Sets.{IsSetOf}
use Rattle.std.specs.List.{AllZip}
use Rattle.std.proofs.lemmas.List.{take_more, map-id}
use Rattle.std.proofs.lemmas.Slice.Zip.{all_zipped_more}
use Rattle.decl_known.proofs.LookUps.{IsOfDomain, sets_by_place}
use Rattle.decl_known.proofs.known.entities_of.Goals as goal

pub loop-domain-preserved : goal.loop-domain-preserved
loop-domain-preserved c =
    rw (
      c.in_ok-push.ensures.items,
      take_more c.args.domains.now c.loop-domain.domain-index
          c.domain-item.result c.loop-domain-test.true,
      ← c.domain-item.is,
    )
    (all_zipped_more IsOfDomain _ _ _ c.domain-item.result c.loop-domain.invariant
    (subst (IsSetOf c.in_ok-of.field-0) (map-id c.as_slice.result.now ∙ c.as_slice.ensures)
    c.in_ok-of.ensures))

pub returns : goal.returns
returns c =
    let all : take c.loop-domain.domain-index c.args.domains.now ≡ c.args.domains.now =
    grind (arith, common_steps) in
    sets_by_place c.loop-domain.sets.items c.args.domains.now
    (subst (AllZip IsOfDomain c.loop-domain.sets.items) all c.loop-domain.invariant)
