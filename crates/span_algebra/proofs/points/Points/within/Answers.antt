use Rattle.std.proofs.Common.{◌≡◌, ◌-◌, ◌≤◌, ◌&&◌, true, false, leb, ltb, ℕ, List, length, take}
use Rattle.std.proofs.Common.{drop, filter, take_all, length-drop, ◌∙◌, sym, ap, subst, arith}
use Rattle.std.proofs.Common.{rules}
use Rattle.std.specs.List.Sorted.{IsNonDecreasingBy, IsPartitionPoint}
use Rattle.std.proofs.lemmas.List.Sorted.{IsPartitionPoint-from_clause, IsPartitionedBy-leb}
use Rattle.std.proofs.lemmas.List.Sorted.{IsNonDecreasingBy-take, IsNonDecreasingBy-drop}
use Rattle.span_algebra.specs.Normal.{IsRising}
use Rattle.span_algebra.proofs.Parts.{part_is, rising_by, rising_filter}
use Rattle.span_algebra.proofs.points.Points.within.Goals as goal

pub returns-clause-list : goal.returns-clause-list
returns-clause-list c =
    let xs = c.deref.result.now in
    let begin = c.partition_point.result in
    let end = c.partition_point-2.result in
    let by : ℕ → ℕ = λ y. y in
    let rising : IsRising xs = subst IsRising (sym c.deref.ensures.value) c.self.invariant in
    let rest : List ℕ = take (length xs - begin) (drop begin xs) in
    let whole : rest ≡ drop begin xs = take_all (length xs - begin) (drop begin xs)
    (omega (arith, length-drop begin xs)) in
    let rises : IsNonDecreasingBy by rest =
    IsNonDecreasingBy-take by (length xs - begin) (drop begin xs) (IsNonDecreasingBy-drop by begin
    xs (rising_by xs rising)) in
    let searched : List ℕ = c.deref-2.result.now in
    let same : searched ≡ xs = c.deref-2.ensures.value ∙ sym c.deref.ensures.value in
    let first = IsPartitionPoint-from_clause (λ (t : ℕ). leb t c.args.w) searched begin
    c.partition_point.ensures.partitioned
    (IsPartitionedBy-leb by searched c.args.w
    (rising_by searched (subst IsRising (sym same) rising))) (λ a r q k. search rules) in
    let second = IsPartitionPoint-from_clause (λ (t : ℕ). leb t c.args.q) rest end
    c.partition_point-2.ensures.partitioned
    (IsPartitionedBy-leb by rest c.args.q rises) (λ a r q k. search rules) in
    let ends : end ≤ length rest = c.partition_point-2.ensures.bound in
    ap (take end) whole
    ∙ part_is xs c.args.w c.args.q begin end (subst (λ (l : List ℕ). begin ≤ length l) same
    c.partition_point.ensures.bound)
    (omega (arith, ends, ap (λ (l : List ℕ). length l) whole))
    (subst (λ (l : List ℕ). IsPartitionPoint (λ t. leb t c.args.w ≡ true) (λ t. leb t c.args.w
    ≡ false) l begin) same first)
    (subst (λ (l : List ℕ). IsPartitionPoint (λ t. leb t c.args.q ≡ true) (λ t. leb t c.args.q
    ≡ false) l end) whole second)
    ∙ ap (filter (λ t. ltb c.args.w t && leb t c.args.q)) (c.deref.ensures.value ∙ c.self.view_is)

pub returns-clause-rising : goal.returns-clause-rising
returns-clause-rising c =
    let now : IsRising c.args.self.now = subst IsRising c.self.view_is c.self.invariant in
    subst IsRising (sym (returns-clause-list c))
    (rising_filter (λ t. ltb c.args.w t && leb t c.args.q) 0 c.args.self.now now)
