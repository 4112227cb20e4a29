use Rattle.std.proofs.Common.{◌≡◌, ℕ, ◌<◌, List, length, get_or, map, subst, sym, ◌∙◌, ap, arith}
use Rattle.std.specs.Arc.{arc_value}
use Rattle.std.proofs.lemmas.List.{length-map, get_or-map}
use Rattle.query_ask.specs.Right.{Parts}
use Rattle.report_text.specs.Printed.{IsCounted, AreCounted}
use Rattle.report_text.proofs.ends.totals.Goals as goal

-- one of counted publications is counted
counted_at : {X : Type 0} (seen : X → Parts) (list : List X) (i : ℕ) (x : X) (parts : Parts)
    → AreCounted (map seen list) → i < length list → x ≡ get_or list i x → parts ≡ seen x
    → IsCounted parts.program
counted_at seen list i x parts all inside is same =
    let at : get_or (map seen list) i (seen x) ≡ parts =
    get_or-map seen list i x (seen x) inside ∙ ap seen (sym is) ∙ sym same in
    subst (λ (p : Parts). IsCounted p.program) at
    (all i (seen x) (omega (arith, inside, length-map list seen)))

pub spans_in-spans-requires : goal.spans_in-spans-requires
spans_in-spans-requires c =
    counted_at arc_value c.args.list.now c.loop-publication.publication-index
    c.publication-item.result c.deref.result.now c.requires c.loop-publication-test.true
    c.publication-item.is c.deref.ensures

pub points_in-points-requires : goal.points_in-points-requires
points_in-points-requires c =
    counted_at arc_value c.args.list.now c.loop-publication.publication-index
    c.publication-item.result c.deref-in-loop-publication.result.now c.requires
    c.loop-publication-test.true c.publication-item.is c.deref-in-loop-publication.ensures
