use Rattle.std.proofs.Common.{arith}
use Rattle.ground_rules.specs.Limits.{unit_count}
use Rattle.ground_names.proofs.Caps.{capped_small}
use Rattle.ground_rules.proofs.NumberedNames.{units_few, small, below, names_few, distinct}
use Rattle.ground_rules.proofs.NumberedNames.{declarations}
use Rattle.ground_rules.proofs.grounding.units_over.Goals as goal

pub new-requires : goal.new-requires
new-requires c =
    let checked = c.args.checked.now in
    rw (c.as_slice-domains.ensures, c.requires.names) (distinct checked c.requires.checked
    c.requires.few)

pub clauses_of-requires : goal.clauses_of-requires
clauses_of-requires c =
    rw (
      c.in_ok-known.ensures.domains,
      c.in_ok-known.ensures.names,
      c.as_slice-domains.ensures,
      c.requires.names,
    )
    (declarations c.args.checked.now c.requires.checked c.requires.few)

pub units_of-requires-clause-numbered : goal.units_of-requires-clause-numbered
units_of-requires-clause-numbered c =
    let checked = c.args.checked.now in
    rw (c.as_slice-domains.ensures, c.requires.names) (small checked c.requires.checked
    c.requires.few)

pub units_of-requires-clause-below : goal.units_of-requires-clause-below
units_of-requires-clause-below c =
    let checked = c.args.checked.now in
    let few = units_few checked c.requires.checked c.requires.few in
    rw (
      c.unit_count-count.ensures,
      c.as_slice-domains.ensures,
      c.as_slice-2.ensures,
      capped_small (unit_count checked.domains checked.names) (omega (arith, few)),
      c.requires.names,
    )
    (below checked c.requires.checked c.requires.few)

pub units_of-requires-clause-names : goal.units_of-requires-clause-names
units_of-requires-clause-names c =
    rw (c.requires.names) (names_few c.args.checked.now c.requires.checked c.requires.few)
