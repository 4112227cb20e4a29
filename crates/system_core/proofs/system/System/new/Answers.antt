use Rattle.system_core.proofs.Holdings.{holds_first}
use Rattle.system_core.proofs.system.System.new.Goals as goal

pub invariant_of-result : goal.invariant_of-result
invariant_of-result c =
    rw (
      c.in_ok-claims.ensures,
      c.in_ok-log.ensures,
      c.in_ok-reviser.ensures,
      c.new-4.ensures,
      c.in_ok-seen.ensures,
      c.in_ok-try_clone.ensures,
      c.deref.ensures,
      c.deref-2.ensures,
    )
    (holds_first _ c.args.cap c.args.readers c.requires.sound)
