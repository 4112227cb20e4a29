use Rattle.std.proofs.Common.{length, ap, ap₂, sym, ◌∙◌, arith, option_copied}
use Rattle.ground_types.specs.Words.{place_in, declaration}
use Rattle.ground_rules.proofs.DeclaredSizes.{value_small}
use Rattle.ground_rules.proofs.instance.Instance.value.Goals as goal

pub overflow_cast-result : goal.overflow_cast-result
overflow_cast-result c =
    let known = c.args.self.now.clause.now.known.now in
    let word = c.args.fv.now.atom.name in
    let small = value_small (length known.domains.now) known.names.now word c.args.fv.now.value
    c.in-Some.name.now c.in-Some-place_in.value
    c.known.ensures.declarations.sound_names
    (ap (λ names. declaration names word) (sym c.known.ensures.names) ∙ sym c.declaration.ensures
    ∙ ap option_copied c.in-Some.is)
    (ap₂ place_in (sym c.as_slice.ensures) (sym (c.as_bytes.ensures.value ∙ c.as_str.ensures))
    ∙ sym c.place_in.ensures ∙ c.in-Some-place_in.is) in
    omega (arith, small)
