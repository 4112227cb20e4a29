use Rattle.std.proofs.Common.{◌≡◌, ◌∷◌, ◌++◌, [], filter_map, map, sym, ap, ◌∙◌, arith}
use Rattle.std.specs.List.{list_all, range_with_len}
use Rattle.std.proofs.lemmas.List.{map-append}
use Rattle.std.proofs.lemmas.List.FromFn.{map-range_with_len_more}
use Rattle.ground_rules.specs.Clauses.{clause_of}
use Rattle.ground_rules.specs.Atoms.{Union_is, all_of, plain_expr}
use Rattle.ground_rules.specs.Grounded.{expression_by, union_for}
use Rattle.ground_rules.specs.Origins.{is_origin, instance_at}
use Rattle.ground_rules.proofs.ByOrigin.{value_origins, value_instances}
use Rattle.ground_rules.proofs.units.unions_of.Goals as goal

pub union_over-requires : goal.union_over-requires
union_over-requires c =
    let clauses = map clause_of c.args.clauses.now in
    ap (list_all (is_origin clauses)) c.get.ensures
    ∙ value_origins clauses c.args.mine.now c.args.values c.loop-value.value c.loop-value-test.true
    c.in_ok-origins.origins c.in_ok-origins.ensures c.requires

pub loop-value-preserved : goal.loop-value-preserved
loop-value-preserved c =
    let clauses = map clause_of c.args.clauses.now in
    let mine = map (instance_at clauses) c.args.mine.now in
    let exprs = c.loop-value.exprs.items in
    let value = c.loop-value.value in
    let is_for : plain_expr c.in_ok-union_over.field-0 ≡ union_for mine value =
    c.in_ok-union_over.ensures
    ∙ ap (λ is. Union_is (all_of (filter_map (λ i. expression_by i i.clause.form) is)))
    (ap (map (instance_at clauses)) c.get.ensures
    ∙ value_instances clauses c.args.mine.now c.args.values value c.loop-value-test.true
    c.in_ok-origins.origins c.in_ok-origins.ensures) in
    ap (map plain_expr) c.in_ok-push.ensures.items
    ∙ map-append plain_expr exprs (c.in_ok-union_over.field-0 ∷ [])
    ∙ ap (λ es. es ++ plain_expr c.in_ok-union_over.field-0 ∷ []) c.loop-value.invariant
    ∙ ap (λ e. map (union_for mine) (range_with_len 0 value) ++ e ∷ []) is_for
    ∙ sym (map-range_with_len_more (union_for mine) 0 value value (omega arith))
