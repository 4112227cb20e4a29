use Rattle.std.proofs.Common.{◌≡◌, map, take}
use Rattle.rule_forms.specs.Forms.{plain_form}
use Rattle.rule_read.specs.Canonical.{text_of}
use Rattle.rule_read.proofs.printing.print_forms.Given as goal

abbrev pub invariant-loop-statement : goal.invariant-loop-statement
invariant-loop-statement l = l.out.items
    ≡ text_of (map (λ s. plain_form s.form) (take l.statement-index l.statements))
