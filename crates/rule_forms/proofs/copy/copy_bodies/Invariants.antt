use Rattle.std.proofs.Common.{◌≡◌, take}
use Rattle.rule_forms.proofs.copy.copy_bodies.Given as goal

abbrev pub invariant-loop-body : goal.invariant-loop-body
invariant-loop-body l = l.copied.items ≡ take l.body-index l.bodies
