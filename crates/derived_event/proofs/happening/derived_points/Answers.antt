use Rattle.std.proofs.Common.{◌≡◌, ℕ, List, take_all, sym, ◌∙◌, ap, arith}
use Rattle.std.specs.List.{flat_map}
use Rattle.std.proofs.lemmas.List.Filters.{dedup_is}
use Rattle.std.proofs.lemmas.List.Sorted.{list_any-IsPermutation}
use Rattle.ground_types.specs.Members.{contains}
use Rattle.derived_event.proofs.Gathered.{dedup_rises, contains-dedup, contains-flat_map}
use Rattle.derived_event.proofs.happening.derived_points.Goals as goal

pub of-requires : goal.of-requires
of-requires c = let is = dedup_is _ _ _ c.dedup.ensures.filtered in
    rw is (dedup_rises _ c.sort_unstable.ensures.sorted)

pub returns-clause-rises : goal.returns-clause-rises
returns-clause-rises c =
    let is = dedup_is _ _ _ c.dedup.ensures.filtered in
    rw (c.of.ensures, is) (dedup_rises _ c.sort_unstable.ensures.sorted)

pub returns-clause-points : goal.returns-clause-points
returns-clause-points c =
    let is = dedup_is _ _ _ c.dedup.ensures.filtered in
    let all : c.loop-points.found.items ≡ flat_map (λ (points : List ℕ). points) c.args.rules.now =
    c.loop-points.invariant ∙ ap (λ (l : List (List ℕ)). flat_map (λ (points : List ℕ). points) l)
    (take_all c.loop-points.points-index c.args.rules.now
    (omega (arith, c.loop-points-test.false))) in
    λ t. ap (λ (l : List ℕ). contains l t) (c.of.ensures ∙ is) ∙ contains-dedup _ t
    ∙ sym (list_any-IsPermutation _ _ _ c.sort_unstable.ensures.permutation)
    ∙ ap (λ (l : List ℕ). contains l t) all ∙ contains-flat_map c.args.rules.now t
