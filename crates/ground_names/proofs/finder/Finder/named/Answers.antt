use Rattle.std.proofs.Common.{◌≡◌, ◌<◌, ◌^◌, IfSome, option_and_then, sym, ap, subst, ◌∙◌}
use Rattle.ground_names.specs.Reached.{number_at, named}
use Rattle.ground_names.proofs.Led.{led_from, fits_from}
use Rattle.ground_names.proofs.finder.Finder.named.Goals as goal

pub returns-in_err-self : goal.returns-in_err-self
returns-in_err-self c =
    c.from_residual.ensures ∙ ap (option_and_then (number_at c.args.program.now))
    (sym c.in_err-self.was)
    ∙ led_from c.self.inside.asked.value c.args.self.now c.args.program.now c.self.inside.reached
    c.self.view_is c.requires.same c.self.invariant.0 c.self.invariant.1

at_end : (c : goal.In_ok-self) → number_at c.args.program.now c.in_ok-self.field-0
    ≡ named c.args.self.now
at_end c =
    ap (option_and_then (number_at c.args.program.now)) (sym c.in_ok-self.was)
    ∙ led_from c.self.inside.asked.value c.args.self.now c.args.program.now c.self.inside.reached
    c.self.view_is c.requires.same c.self.invariant.0 c.self.invariant.1

pub number_at-requires : goal.number_at-requires
number_at-requires c =
    subst (λ o. IfSome o (λ found. found.1 < 2 ^ 32)) (sym (at_end c))
    (fits_from c.self.inside.asked.value c.args.self.now c.args.program.now c.self.inside.reached
    c.self.view_is c.requires.same c.self.invariant.0 c.self.invariant.1)

pub returns : goal.returns
returns c =
    c.number_at.ensures ∙ ap (option_and_then (number_at c.args.program.now)) (sym c.in_ok-self.was)
    ∙ led_from c.self.inside.asked.value c.args.self.now c.args.program.now c.self.inside.reached
    c.self.view_is c.requires.same c.self.invariant.0 c.self.invariant.1
