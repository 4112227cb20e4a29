-- A legal history goes on legally with an entry that follows it legally.
use Rattle.std.proofs.Common.{List, [], ◌∷◌, ◌++◌, sym, subst, append_assoc, append-nil}
use Rattle.ground_types.specs.History.{FollowsLegally, AreLegalAfter}
use Rattle.ground_types.specs.declared.plan.Plan.{Plan}
use Rattle.ground_types.specs.declared.entries.Entry.{Entry}

pub legal_push : (plan : Plan) (before xs : List Entry) (x : Entry) → AreLegalAfter plan before xs
    → FollowsLegally plan (before ++ xs) x → AreLegalAfter plan before (xs ++ x ∷ [])
legal_push plan before [] x legal last =
    (subst (λ (h : List Entry). FollowsLegally plan h x) (append-nil before) last, tt)
legal_push plan before (y ∷ ys) x legal last = (
  legal.0,
  legal_push plan (before ++ y ∷ []) ys x legal.1
      (subst (λ (h : List Entry). FollowsLegally plan h x)
      (sym (append_assoc before (y ∷ []) ys)) last),
)
