use Rattle.std.proofs.Common.{◌≡◌, map, take}
use Rattle.rule_forms.specs.Forms.{plain}
use Rattle.domain_decl.specs.Plans.{all_in}
use Rattle.domain_decl.specs.Given.{number_in, given_by}
use Rattle.domain_decl.proofs.plans.numbers.Given as goal

abbrev pub invariant-loop-statement : goal.invariant-loop-statement
invariant-loop-statement l = l.given ≡ given_by (all_in (number_in l.fn.kind)
    (map plain (take l.statement-index l.statements)))
