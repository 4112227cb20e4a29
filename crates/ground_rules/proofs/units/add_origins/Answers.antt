use Rattle.std.proofs.Common.{◌≡◌, ◌∷◌, [], cond, map, length, ap, ◌∙◌, arith}
use Rattle.std.specs.List.{fold}
use Rattle.ground_rules.specs.Assignments.{assignments}
use Rattle.ground_rules.specs.Clauses.{clause_of}
use Rattle.ground_rules.specs.Origins.{put, origin_unit, is_permitted_at, first_origins, count_at}
use Rattle.ground_rules.specs.Origins.{no_clause}
use Rattle.ground_rules.proofs.ByOrigin.{first_origins_more, get_or_mapped}
use Rattle.ground_rules.proofs.units.add_origins.Goals as goal

pub loop-number-preserved : goal.loop-number-preserved
loop-number-preserved c =
    let clauses = map clause_of c.args.clauses.now in
    let loop = c.loop-number in
    c.in_ok-add_origin.ensures
    ∙ ap (λ lists. fold (put (origin_unit clauses)) lists
    (cond (is_permitted_at clauses (record {
      statement = c.args.statement;
      assignment =
          loop.number;
    })) (record { statement = c.args.statement; assignment = loop.number } ∷ []) []))
    loop.invariant
    ∙ first_origins_more clauses c.args.statement loop.number c.args.origins.now

pub returns : goal.returns
returns c =
    let clauses = map clause_of c.args.clauses.now in
    let here = ap (λ clause. length (assignments clause))
    (get_or_mapped clause_of c.args.clauses.now c.args.statement c.index-clauses-statement.result
    no_clause c.requires.inside c.index-clauses-statement.is) in
    let all : c.loop-number.number ≡ count_at clauses c.args.statement =
    omega (
      arith,
      here,
      c.requires.few,
      c.count-number-end.ensures,
      c.loop-number-test.false,
      c.loop-number.auto.number-end,
    ) in
    c.loop-number.invariant ∙ ap (λ n. fold (put (origin_unit clauses)) c.args.origins.now
    (first_origins clauses c.args.statement n)) all
