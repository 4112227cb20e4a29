use Rattle.std.proofs.Common.{option_copied, ap, sym, ◌∙◌}
use Rattle.ground_types.specs.Words.{declaration}
use Rattle.ground_rules.proofs.DeclaredSizes.{found_small}
use Rattle.ground_rules.proofs.instance.Instance.atom.Goals as goal

pub number-requires : goal.number-requires
number-requires c =
    let known = c.args.self.now.clause.now.known.now in
    let word = c.args.atom.now.name in
    found_small known.domains.now known.names.now word c.in-Some.name.now
    c.known.ensures.declarations.small_numbers
    (ap (λ names. declaration names word) (sym c.known.ensures.names) ∙ sym c.declaration.ensures
    ∙ ap option_copied c.in-Some.is)
