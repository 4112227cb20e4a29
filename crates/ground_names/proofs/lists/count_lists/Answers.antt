use Rattle.std.proofs.Common.{◌≡◌, ℕ, ◌*◌, take, get_or, ap, sym, ◌∙◌, arith}
use Rattle.std.proofs.lemmas.Grind.{common_steps}
use Rattle.std.proofs.lemmas.List.{take_more}
use Rattle.ground_names.specs.Counted.{capped}
use Rattle.ground_names.proofs.Caps.{capped_mul}
use Rattle.ground_names.proofs.Ordered.{product, product_push, length_lists}
use Rattle.ground_names.proofs.lists.count_lists.Goals as goal

pub loop-size-preserved : goal.loop-size-preserved
loop-size-preserved c =
    let size : ℕ = get_or c.args.sizes.now c.loop-size.size-index 0 in
    c.saturating_mul-count.ensures
    ∙ ap (λ n. capped (n * size)) c.loop-size.invariant
    ∙ capped_mul (product (take c.loop-size.size-index c.args.sizes.now)) size
    ∙ sym (ap capped (ap product (take_more c.args.sizes.now c.loop-size.size-index 0
    c.loop-size-test.true) ∙ product_push (take c.loop-size.size-index c.args.sizes.now) size))

pub returns : goal.returns
returns c =
    let all : take c.loop-size.size-index c.args.sizes.now ≡ c.args.sizes.now =
    grind (arith, common_steps) in
    c.loop-size.invariant ∙ ap capped (ap product all ∙ sym (length_lists c.args.sizes.now))
