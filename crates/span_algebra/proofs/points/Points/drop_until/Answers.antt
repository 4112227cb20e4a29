use Rattle.std.proofs.Common.{◌≡◌, leb, ltb, ℕ, drop, ◌∙◌, sym, ap, subst, arith, rules}
use Rattle.std.proofs.lemmas.List.Sorted.{IsPartitionPoint-from_clause, IsPartitionedBy-leb}
use Rattle.span_algebra.specs.Normal.{IsRising}
use Rattle.span_algebra.proofs.Parts.{from_there_on, rising_by, rising_filter}
use Rattle.span_algebra.proofs.points.Points.drop_until.Goals as goal

pub returns-then-count-gt0 : goal.returns-then-count-gt0
returns-then-count-gt0 c =
    let xs = c.deref.result.now in
    let parted = IsPartitionPoint-from_clause (λ (t : ℕ). leb t c.args.w) xs
    c.partition_point-count.result c.partition_point-count.ensures.partitioned
    (IsPartitionedBy-leb (λ y. y) xs c.args.w (rising_by xs (subst IsRising
    (sym c.deref.ensures.value) c.self.invariant))) (λ a r q k. search rules) in
    c.drop-drain.ensures.items ∙ c.drain.ensures.kept
    ∙ from_there_on xs c.self.inside.points.items c.args.self.now c.args.w
    c.partition_point-count.result c.deref.ensures.value c.self.view_is
    c.partition_point-count.ensures.bound parted

pub returns-else-count-gt0 : goal.returns-else-count-gt0
returns-else-count-gt0 c =
    let xs = c.deref.result.now in
    let parted = IsPartitionPoint-from_clause (λ (t : ℕ). leb t c.args.w) xs
    c.partition_point-count.result c.partition_point-count.ensures.partitioned
    (IsPartitionedBy-leb (λ y. y) xs c.args.w (rising_by xs (subst IsRising
    (sym c.deref.ensures.value) c.self.invariant))) (λ a r q k. search rules) in
    let none : 0 ≡ c.partition_point-count.result = omega (arith, c.if-count-gt0.false) in
    sym c.self.view_is ∙ ap (λ (n : ℕ). drop n c.self.inside.points.items) none
    ∙ from_there_on xs c.self.inside.points.items c.args.self.now c.args.w
    c.partition_point-count.result c.deref.ensures.value c.self.view_is
    c.partition_point-count.ensures.bound parted

pub invariant_of-self : goal.invariant_of-self
invariant_of-self c =
    subst IsRising (sym (returns-then-count-gt0 c))
    (rising_filter (λ t. ltb c.args.w t) 0 c.args.self.now (subst IsRising c.self.view_is
    c.self.invariant))
