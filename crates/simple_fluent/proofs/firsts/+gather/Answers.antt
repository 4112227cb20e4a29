use Rattle.std.proofs.Common.{◌/◌, length, ◌∙◌, refl, ap, arith, List}
use Rattle.simple_fluent.specs.declared.firsts.First.{First}
use Rattle.simple_fluent.specs.Firsts.{value_in}
use Rattle.simple_fluent.proofs.Merging.{least_halves, one_gathered, one_rises}
use Rattle.simple_fluent.proofs.firsts.+gather.Goals as goal

pub returns-in_ok-out-in-len1-clause-rises : goal.returns-in_ok-out-in-len1-clause-rises
returns-in_ok-out-in-len1-clause-rises t c =
    rw (c.in_ok-out-in-len1.ensures, c.as_slice.ensures.list)
    (one_rises 0 _ _ c.as_slice.ensures.rising)

pub returns-in_ok-out-in-len1-clause-each : goal.returns-in_ok-out-in-len1-clause-each
returns-in_ok-out-in-len1-clause-each t c =
    one_gathered c.args.inits.now c.one-item.result _ _ _ c.in-len1.len_below
    c.in-len1.len_at_least c.one-item.is c.as_slice.ensures.list c.in_ok-out-in-len1.ensures

pub returns-in_ok-out-in_default-clause-each : goal.returns-in_ok-out-in_default-clause-each
returns-in_ok-out-in_default-clause-each t c = λ u.
    c.in_ok-out-in_default.ensures.each u
    ∙ least_halves c.args.from _ c.args.inits.now (length c.args.inits.now / 2) u _ _ (omega arith)
    refl
    (ap (λ (l : List First). value_in l u) c.deref.ensures.value
    ∙ c.in_ok-one-in_default.ensures.each u)
    (ap (λ (l : List First). value_in l u) c.deref-in_default.ensures.value
    ∙ c.in_ok-two-in_default.ensures.each u)
