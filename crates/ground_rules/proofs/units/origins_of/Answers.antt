use Rattle.std.proofs.Common.{◌≡◌, [], map, flat_map, length, replicate, ap, ◌∙◌, arith}
use Rattle.std.proofs.lemmas.List.{length-map}
use Rattle.std.specs.List.{fold, range_with_len}
use Rattle.ground_rules.specs.Clauses.{clause_of}
use Rattle.ground_rules.specs.Origins.{put, origin_unit, origins_at, origins_of}
use Rattle.ground_rules.proofs.Gathered.{gathered_from_none}
use Rattle.ground_rules.proofs.ByOrigin.{origins_more}
use Rattle.ground_rules.proofs.units.origins_of.Goals as goal

pub loop-statement-preserved : goal.loop-statement-preserved
loop-statement-preserved c =
    let clauses = map clause_of c.args.clauses.now in
    c.in_ok-add_origins.ensures
    ∙ ap (λ lists. fold (put (origin_unit clauses)) lists
    (origins_at clauses c.loop-statement.statement)) c.loop-statement.invariant
    ∙ origins_more clauses c.loop-statement.statement (replicate c.args.units [])

pub returns : goal.returns
returns c =
    let clauses = map clause_of c.args.clauses.now in
    let all : c.loop-statement.statement ≡ length clauses =
    omega (
      arith,
      length-map c.args.clauses.now clause_of,
      c.loop-statement-test.false,
      c.loop-statement.auto.statement-end,
    ) in
    c.loop-statement.invariant
    ∙ ap (λ n. fold (put (origin_unit clauses)) (replicate c.args.units [])
    (flat_map (origins_at clauses) (range_with_len 0 n))) all
    ∙ gathered_from_none (origin_unit clauses) c.args.units (origins_of clauses)
