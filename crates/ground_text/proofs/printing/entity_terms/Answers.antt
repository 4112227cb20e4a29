use Rattle.std.proofs.Common.{map, ap, sym, ◌∙◌}
use Rattle.std.proofs.lemmas.Simd.{map-map}
use Rattle.std.proofs.lemmas.Iterator.{YieldsList-from_slice, YieldsList-from_zip}
use Rattle.std.proofs.lemmas.Iterator.Consumers.{YieldsList-end}
use Rattle.rule_forms.specs.declared.form.Term.TheVariants as term
use Rattle.ground_types.specs.Words.{entity_word}
use Rattle.ground_text.proofs.printing.entity_terms.Goals as goal

pub returns : goal.returns
returns c =
    let domains = c.args.domains.now in
    let end = YieldsList-end (YieldsList-from_zip {s = c.into_iter-domain-iterator.result}
    (YieldsList-from_slice c.args.places.now cc) (YieldsList-from_slice c.args.args.now cc))
    c.loop-domain.yielded c.loop-domain.domain-iterator c.loop-domain.yielded_by c.next.result
    c.next.new.self c.in-None.is c.next.ensures.steps in
    c.of.ensures ∙ c.loop-domain.invariant
    ∙ sym (map-map (λ place. term.Entity (entity_word domains place)) (λ place.
    (place.0.now, place.1.now)) c.loop-domain.yielded)
    ∙ sym (map-map term.Entity (entity_word domains) (map (λ place. (place.0.now, place.1.now))
    c.loop-domain.yielded))
    ∙ ap (λ places. map term.Entity (map (entity_word domains) places)) end.0
