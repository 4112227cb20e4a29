use Rattle.std.proofs.Common.{◌≡◌, map}
use Rattle.rule_forms.specs.declared.form.Term.TheVariants as term
use Rattle.ground_types.specs.Words.{entity_word}
use Rattle.ground_text.proofs.printing.entity_terms.Given as goal

abbrev pub invariant-loop-domain : goal.invariant-loop-domain
invariant-loop-domain l = l.terms.items ≡ map (λ place.
    term.Entity (entity_word l.domains (place.0.now, place.1.now))) l.yielded
