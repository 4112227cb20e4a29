use Rattle.std.proofs.Common.{◌≡◌, ℕ, ◌∷◌, [], ◌++◌, ◌*◌, take, get_or, slice_get, ap, sym, ◌∙◌}
use Rattle.std.proofs.Common.{◌+◌, arith}
use Rattle.std.proofs.lemmas.Grind.{common_steps}
use Rattle.std.proofs.lemmas.List.{take_more, map-append}
use Rattle.ground_types.specs.Sound.{entity_count, domain_sizes}
use Rattle.ground_names.specs.Counted.{capped}
use Rattle.ground_names.proofs.Caps.{capped_mul}
use Rattle.ground_names.proofs.Ordered.{product, product_push, length_lists}
use Rattle.ground_names.proofs.lists.count_arguments.Goals as goal

pub loop-number-preserved : goal.loop-number-preserved
loop-number-preserved c =
    let front = take c.loop-number.number-index c.args.numbers.now in
    let size : ℕ = c.entity_count.result in
    let more : domain_sizes c.args.domains.now (take (c.loop-number.number-index + 1)
    c.args.numbers.now) ≡ domain_sizes c.args.domains.now front ++ size ∷ [] =
    ap (domain_sizes c.args.domains.now) (take_more c.args.numbers.now c.loop-number.number-index 0
    c.loop-number-test.true)
    ∙ map-append (λ d. entity_count (slice_get c.args.domains.now d)) front
    (get_or c.args.numbers.now c.loop-number.number-index 0 ∷ [])
    ∙ ap (λ n. domain_sizes c.args.domains.now front ++ n ∷ []) (sym c.entity_count.ensures) in
    c.saturating_mul-count.ensures
    ∙ ap (λ n. capped (n * size)) c.loop-number.invariant
    ∙ capped_mul (product (domain_sizes c.args.domains.now front)) size
    ∙ sym (ap capped (ap product more ∙ product_push (domain_sizes c.args.domains.now front) size))

pub returns : goal.returns
returns c =
    let all : take c.loop-number.number-index c.args.numbers.now ≡ c.args.numbers.now =
    grind (arith, common_steps) in
    c.loop-number.invariant ∙ ap capped (ap (λ l. product (domain_sizes c.args.domains.now l)) all
    ∙ sym (length_lists (domain_sizes c.args.domains.now c.args.numbers.now)))
