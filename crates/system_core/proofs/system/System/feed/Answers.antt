use Rattle.std.proofs.Common.{refl}
use Rattle.ground_types.specs.declared.entries.Entry.TheVariants.{Fed}
use Rattle.system_core.proofs.Holdings.{holds_fed}
use Rattle.system_core.proofs.system.System.feed.Goals as goal
use Rattle.system_core.proofs.system.System.feed.Goals.{in-Ok, in-Err}

pub invariant_of-self : goal.invariant_of-self
invariant_of-self c =
    elim c.match-admit.branch [
      | in-Ok w ↦ rw w.in-Ok.ensures.ok (holds_fed _ _ _ _ _ _ c.self.invariant
          (Fed c.args.feeder c.args.act c.args.event c.args.at w.in-Ok.reply) refl)
      | in-Err w ↦ rw w.in-Err.ensures.err c.self.invariant
    ]
