use Rattle.std.proofs.Common.{◌+◌, subst, sym, ap, ◌∙◌}
use Rattle.ground_rules.specs.Assignments.{is_permitted}
use Rattle.ground_rules.specs.Clauses.{clause_of}
use Rattle.ground_rules.proofs.CountedInstances.{AreCounted, one_more, none_more}
use Rattle.ground_rules.proofs.limits.instances_in.Goals.{then-is_permitted, else-is_permitted}
use Rattle.ground_rules.proofs.limits.instances_in.Goals as goal

pub loop-number-preserved : goal.loop-number-preserved
loop-number-preserved c =
    let clause = clause_of c.args.clause.now in
    let made = c.assign.new.into.items in
    let lent = ap (λ l. is_permitted (record { clause = clause; assignment = l }))
    c.as_slice.ensures.value in
    elim c.if-is_permitted.branch [
      | then-is_permitted w ↦ subst (AreCounted clause (c.loop-number.number + 1)) (sym w.count-is)
          (one_more clause c.loop-number.number c.loop-number.count made c.in_ok-assign.ensures
          c.loop-number.invariant (sym lent ∙ sym c.is_permitted.ensures ∙ w.if-is_permitted.true))
      | else-is_permitted w ↦ subst (AreCounted clause (c.loop-number.number + 1)) (sym w.count-is)
          (none_more clause c.loop-number.number c.loop-number.count made c.in_ok-assign.ensures
          c.loop-number.invariant (sym lent ∙ sym c.is_permitted.ensures ∙ w.if-is_permitted.false))
    ]
