use Rattle.std.proofs.Common.{take, get_or, sym, ap, ◌∙◌}
use Rattle.std.proofs.lemmas.List.{take_more}
use Rattle.std.specs.List.{find, range_with_len}
use Rattle.ground_types.specs.Members.{contains}
use Rattle.ground_rules.specs.Origins.{lesser}
use Rattle.ground_rules.proofs.FirstGiven.{none_found, first_with_more}
use Rattle.ground_rules.proofs.units.first_given.Goals as goal

pub loop-value-init : goal.loop-value-init
loop-value-init c = sym (none_found 0 c.args.values)

pub loop-value-preserved : goal.loop-value-preserved
loop-value-preserved c =
    let given = c.args.given.now in
    let i = c.loop-value.value-index in
    c.lesser-least.ensures
    ∙ ap (λ o. lesser c.args.values o (get_or given i 0)) c.loop-value.invariant
    ∙ sym (first_with_more (take i given) (get_or given i 0) c.args.values)
    ∙ ap (λ xs. find (contains xs) (range_with_len 0 c.args.values))
    (sym (take_more given i 0 c.loop-value-test.true))
