use Rattle.rule_forms.specs.Forms.{plain_form}
use Rattle.ground_rules.specs.Listed.{listed_at}
use Rattle.ground_text.proofs.GroundLines.{instance_more}
use Rattle.ground_text.proofs.printing.put_instances.Goals as goal

pub loop-place-preserved : goal.loop-place-preserved
loop-place-preserved c =
    instance_more (listed_at c.args.instances.now c.args.unit) c.loop-place.place
    (plain_form c.in_ok-form.form) c.args.out.now.items c.loop-place.out.items
    c.put_instance.new.out.items
    c.in_ok-form.ensures c.loop-place.invariant c.in_ok-put_instance.ensures
