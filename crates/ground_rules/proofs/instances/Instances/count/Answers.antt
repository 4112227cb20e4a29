use Rattle.std.proofs.Common.{length, ap, ◌∙◌}
use Rattle.ground_rules.specs.Listed.{clauses_in}
use Rattle.ground_rules.proofs.ListedInstances.{as_many}
use Rattle.ground_rules.proofs.instances.Instances.count.Goals as goal

pub returns : goal.returns
returns c =
    let self = c.args.self.now in
    ap length c.get.ensures ∙ as_many (clauses_in self) self.are_few self.origins self.are_origins
    c.args.unit c.requires
