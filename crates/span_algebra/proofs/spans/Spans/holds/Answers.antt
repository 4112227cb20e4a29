use Rattle.std.proofs.Common.{◌≡◌, rules, of_calls, sym, ◌∙◌, ap, subst, ltb, false}
use Rattle.std.proofs.lemmas.Fn.{always_returns_same}
use Rattle.std.proofs.lemmas.List.Sorted.{IsPartitionedBy-ltb}
use Rattle.std.specs.Prelude.{MatchOption}
use Rattle.span_algebra.specs.Normal.{IsNormal, covers}
use Rattle.span_algebra.specs.declared.spans.Span.{Span}
use Rattle.span_algebra.proofs.Covering.{until_rises, covers_found}
use Rattle.span_algebra.proofs.spans.Spans.holds.Goals as goal

pub returns : goal.returns
returns c =
    let xs = c.deref.result.now in
    let normal : IsNormal xs = subst IsNormal (sym c.deref.ensures.value) c.self.invariant in
    let point = c.partition_point-place.ensures.partitioned (λ y. ltb y.until c.args.at)
    (always_returns_same _ _ _ (λ a r f k. search (rules, of_calls)))
    (IsPartitionedBy-ltb (λ (y : Span). y.until) xs c.args.at (until_rises 0 xs normal)) in
    let told : MatchOption c.get.result (c.is_some_and.result ≡ false) (λ x. c.is_some_and.result
    ≡ ltb x.now.after c.args.at) = search (rules, of_calls) in
    covers_found xs c.partition_point-place.result c.args.at c.get.result c.is_some_and.result
    normal point
    (rw (c.deref.ensures.value, ← c.deref-2.ensures.value) c.get.ensures.lookup.3) told
    ∙ ap (λ l. covers l c.args.at) (c.deref.ensures.value ∙ c.self.view_is)
