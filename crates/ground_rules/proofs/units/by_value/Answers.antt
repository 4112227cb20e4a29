use Rattle.std.proofs.Common.{[], ◌∷◌, ◌++◌, map, take, set, get_or, refl, sym, ap, ◌∙◌}
use Rattle.std.proofs.lemmas.List.{take_more}
use Rattle.ground_rules.specs.declared.units.Origin.{Origin}
use Rattle.ground_rules.specs.Clauses.{clause_of}
use Rattle.ground_rules.specs.Atoms.{head_value}
use Rattle.ground_rules.specs.Origins.{gathered, put, instance_at, with_key}
use Rattle.ground_rules.proofs.Gathered.{all_empty, gathered_more}
use Rattle.ground_rules.proofs.units.by_value.Goals as goal

pub loop-origin-init : goal.loop-origin-init
loop-origin-init c =
    c.in_ok-origins.ensures ∙ sym (all_empty
    (with_key (λ origin. head_value (instance_at (map clause_of c.args.clauses.now) origin)) [])
    (λ k. refl) 0 c.args.values)

pub loop-origin-preserved : goal.loop-origin-preserved
loop-origin-preserved c =
    let clauses = map clause_of c.args.clauses.now in
    let mine = c.args.mine.now in
    let i = c.loop-origin.origin-index in
    let origin = get_or mine i (record { statement = 0; assignment = 0 }) in
    let key = λ (o : Origin). head_value (instance_at clauses o) in
    c.in_ok-push.ensures
    ∙ ap (λ n. set c.loop-origin.origins n (get_or c.loop-origin.origins n [] ++ origin ∷ []))
    (c.head_value.ensures ∙ ap head_value c.in_ok-instance.ensures)
    ∙ ap (λ lists. put key lists origin) c.loop-origin.invariant
    ∙ sym (gathered_more key c.args.values (take i mine) origin)
    ∙ ap (gathered key c.args.values) (sym (take_more mine i _ c.loop-origin-test.true))
