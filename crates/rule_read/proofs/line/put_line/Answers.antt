use Rattle.std.proofs.Common.{◌++◌, List, ℕ, ap, sym, ◌∙◌}
use Rattle.rule_read.proofs.ByToken.{put_front, nothing_left}
use Rattle.rule_read.proofs.line.put_line.Goals as goal

pub loop-rest-preserved : goal.loop-rest-preserved
loop-rest-preserved c =
    put_front c.loop-rest.rest.now _ c.loop-rest.out.items c.put_token.new.out.items
    c.in-len1-up.len_at_least c.in_ok-put_token.ensures ∙ c.loop-rest.invariant

pub returns : goal.returns
returns c =
    c.in_ok-extend_from_slice.ensures.items ∙ ap (λ (bytes : List ℕ). c.loop-rest.out.items
    ++ bytes) (sym (nothing_left c.loop-rest.rest.now c.in_default.len_below))
    ∙ c.loop-rest.invariant
