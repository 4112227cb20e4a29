use Rattle.std.proofs.Common.{◌≡◌, ◌++◌, ◌∷◌, [], List, ap, ap₂, ◌∙◌, map, sym, subst}
use Rattle.std.proofs.lemmas.List.{map-append}
use Rattle.std.specs.Arc.{arc_value}
use Rattle.query_ask.specs.Right.{Parts}
use Rattle.publish_shelf.specs.Listed.{IsListed}
use Rattle.publish_shelf.proofs.Following.{is_listed}
use Rattle.publish_shelf.proofs.plain.PlainBoardBoard.put.Goals as goal

pub invariant_of-self-2 : goal.invariant_of-self-2
invariant_of-self-2 c =
    let grown : map arc_value c.push.new.self.items
    ≡ c.args.self.now ++ arc_value c.args.publication.now ∷ [] =
    ap (map arc_value) c.in_ok-push.ensures.items ∙ map-append arc_value _ _
    ∙ ap₂ (λ (l : List Parts) (p : Parts). l ++ p ∷ []) c.self.view_is c.in_ok-shared.ensures in
    subst IsListed (sym grown) (is_listed c.args.self.now (arc_value c.args.publication.now)
    (subst IsListed c.self.view_is c.self.invariant) c.requires.next)
