use Rattle.std.proofs.Common.{◌≡◌, subst, eqb, arith, ℕ, List}
use Rattle.std.specs.List.{IsDistinct}
use Rattle.std.proofs.lemmas.Bool.Decides.{nat_tests}
use Rattle.std.proofs.lemmas.List.Sorted.{IsNonDecreasingBy-from_sort}
use Rattle.std.proofs.lemmas.Map.Keys.{IsDistinct-IsPermutation, IsStrictlyIncreasing-from_distinct}
use Rattle.std.specs.List.Sorted.{IsPermutation, IsNonDecreasing}
use Rattle.system_core.specs.Claiming.{IsInOrder}
use Rattle.system_core.proofs.claims.in_order.Goals as goal

turned : (x y : ℕ) → eqb x y ≡ eqb y x
turned x y = grind (arith, nat_tests)

in_order : (units sorted : List ℕ) → IsPermutation units sorted → IsNonDecreasing sorted
    → IsDistinct eqb units → IsInOrder units sorted
in_order units sorted same order distinct = record {
  same = same;
  falls_never = order;
  rises = IsStrictlyIncreasing-from_distinct sorted order
      (IsDistinct-IsPermutation eqb turned units sorted same distinct);
}

pub returns : goal.returns
returns c =
    rw c.of.ensures
    (in_order c.args.units.now c.sort_unstable.new.self.items
    (subst (λ (l : List ℕ). IsPermutation l c.sort_unstable.new.self.items)
    c.in_ok-ordered.ensures.items c.sort_unstable.ensures.permutation)
    (IsNonDecreasingBy-from_sort (λ x. x) c.sort_unstable.new.self.items
    c.sort_unstable.ensures.sorted) c.requires)
