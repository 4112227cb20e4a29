use Rattle.std.proofs.Common.{◌≡◌, map, take}
use Rattle.rule_forms.specs.Forms.{plain}
use Rattle.ground_rules.specs.Clauses.{clause_of}
use Rattle.ground_rules.specs.Grounded.{clauses_of}
use Rattle.ground_rules.proofs.grounding.clauses_of.Given as goal

abbrev pub invariant-loop-rule : goal.invariant-loop-rule
invariant-loop-rule l = map clause_of l.clauses.items ≡ clauses_of l.known.domains.now
    l.known.names.now (map plain (take l.rule-index l.rules))
