use Rattle.std.proofs.Common.{List, ◌/◌, ◌≡◌, ◌≤◌, ap, sym, subst, ◌∙◌, arith}
use Rattle.ground_types.specs.declared.entries.Command.{Command}
use Rattle.workload_draw.specs.Counts.{feed_count, seal_count}
use Rattle.workload_draw.specs.Spaced.{AreSpaced}
use Rattle.workload_draw.specs.Workload.{Drawing, per_seal, drawing, AreMade}
use Rattle.workload_draw.proofs.Drawings.{per_seal_some, spaced, next_fed, next_bare, made_all}
use Rattle.workload_draw.proofs.Drawings.{feeds_few, seals_few}
use Rattle.workload_draw.proofs.rounds.workload.Goals as goal
use Rattle.workload_draw.proofs.rounds.workload.Goals.{then-program-gt0+in_ok-add_feed}
use Rattle.workload_draw.proofs.rounds.workload.Goals.{else-program-gt0}

pub add_feed-requires-clause-spaced : goal.add_feed-requires-clause-spaced
add_feed-requires-clause-spaced c =
    let program = c.args.program.now in
    let i = c.loop-i.i in
    let all = ap (λ (d : Drawing). d.commands) c.loop-i.invariant in
    subst (λ m. AreSpaced m i (i / m) c.loop-i.made.commands) (sym c.div_ceil-m.ensures)
    (subst (λ (l : List Command). AreSpaced (per_seal program.plan c.args.size) i
    (i / per_seal program.plan c.args.size) l) (sym all)
    (spaced program c.args.seed c.args.size i c.if-program-gt0.true c.requires.queries
    c.requires.some c.loop-i-test.true))

pub add_seal-requires-clause-every : goal.add_seal-requires-clause-every
add_seal-requires-clause-every c =
    omega (
      arith,
      per_seal_some c.args.program.now.plan c.args.size c.requires.queries
          c.requires.some,
      c.div_ceil-m.ensures,
    )

pub loop-i-preserved : goal.loop-i-preserved
loop-i-preserved c =
    let program = c.args.program.now in
    elim c.if-program-gt0.branch [
      | then-program-gt0+in_ok-add_feed w ↦
          next_fed program c.args.seed c.args.size c.div_ceil-m.result c.loop-i.i c.loop-i.made
          c.if-program-gt0.made c.add_seal.new.self c.div_ceil-m.ensures w.if-program-gt0.true
          c.loop-i.invariant (w.made-is ∙ w.in_ok-add_feed.ensures) c.in_ok-add_seal.ensures
      | else-program-gt0 w ↦
          next_bare program c.args.seed c.args.size c.div_ceil-m.result c.loop-i.i c.loop-i.made
          c.if-program-gt0.made c.add_seal.new.self c.div_ceil-m.ensures w.if-program-gt0.false
          c.loop-i.invariant w.made-is c.in_ok-add_seal.ensures
    ]

pub returns-clause-is : goal.returns-clause-is
returns-clause-is c =
    let all = ap (λ (d : Drawing). d.commands) c.loop-i.invariant in
    let end : c.loop-i.i ≡ c.args.size = omega arith in
    c.into_commands.ensures ∙ all
    ∙ ap (λ n. (drawing c.args.program.now c.args.seed c.args.size n).commands) end

pub returns-clause-made : goal.returns-clause-made
returns-clause-made c =
    subst (λ (l : List Command). AreMade c.args.program.now l) (sym (returns-clause-is c))
    (made_all c.args.program.now c.args.seed c.args.size c.requires.queries c.requires.some)

pub returns-clause-feeds : goal.returns-clause-feeds
returns-clause-feeds c =
    subst (λ (l : List Command). feed_count l ≤ c.args.size) (sym (returns-clause-is c))
    (feeds_few c.args.program.now c.args.seed c.args.size c.requires.queries c.requires.some)

pub returns-clause-seals : goal.returns-clause-seals
returns-clause-seals c =
    subst (λ (l : List Command). seal_count l ≤ c.args.program.now.plan.queries)
    (sym (returns-clause-is c))
    (seals_few c.args.program.now c.args.seed c.args.size c.requires.queries c.requires.some)
