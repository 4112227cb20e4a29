use Rattle.std.proofs.Common.{[], refl}
use Rattle.decl_known.proofs.Gathering.{one_more_kept}
use Rattle.ground_rules.specs.LentInstances.{instance_of}
use Rattle.ground_rules.specs.Stated.{stated_condition}
use Rattle.ground_rules.proofs.instance.Instance.stated_conditions.Goals as goal

pub loop-body-preserved : goal.loop-body-preserved
loop-body-preserved c =
    one_more_kept (stated_condition (instance_of c.args.self.now)) c.args.bodies.now
    c.loop-body.body-index _ c.body-item.result [] _ _
    (c.loop-body-test.true, c.body-item.is) refl c.in_ok-add_stated.ensures c.loop-body.invariant
