use Rattle.std.proofs.Common.{◌≡◌, [], length, drop, sym, ap, ◌∙◌, arith}
use Rattle.std.proofs.lemmas.List.{length-drop}
use Rattle.stream_read.specs.Looked.{place_from}
use Rattle.stream_read.proofs.NamedPlaces.{too_few}
use Rattle.stream_read.proofs.names.Names.place.Goals as goal

pub returns-in_err-word : goal.returns-in_err-word
returns-in_err-word c =
    let l = c.loop-domain in
    let domains = c.args.self.now.program.now.domains in
    let args = c.args.name.now.args in
    let left = length-drop l.domain-index args in
    let count = ap length c.as_slice-domain-items.ensures in
    let none : l.fields ≡ [] = c.in_err-word.ensures in
    c.from_residual.ensures
    ∙ sym (too_few domains l.place (drop l.domain-index args)
    (omega (arith, left, count, c.loop-domain-test.true)))
    ∙ ap (place_from domains l.place (drop l.domain-index args)) (sym none) ∙ l.invariant
