use Rattle.std.proofs.Common.{◌≡◌, ◌≤◌, take, drop}
use Rattle.ground_names.proofs.Ordered.{IsAt}
use Rattle.ground_names.proofs.lists.take_apart.Given as goal

abbrev pub invariant-loop-size : goal.invariant-loop-size
invariant-loop-size l = record {
  left : drop l.size-index l.sizes ≡ drop l.size-index l.fn.sizes;
  at : IsAt l.fn.sizes l.place (drop l.size-index l.fn.sizes) l.count l.rest
      (take l.size-index l.sizes);
  small : l.rest ≤ l.place;
}
