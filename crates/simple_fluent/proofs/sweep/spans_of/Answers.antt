use Rattle.std.proofs.Common.{sym, arith}
use Rattle.span_algebra.proofs.Parts.{rising_lower}
use Rattle.simple_fluent.proofs.Sweeping.{sweeping_start, sweeping_more, sweeping_end, can_pass}
use Rattle.simple_fluent.proofs.Sweeping.{can_end, event_is}
use Rattle.simple_fluent.proofs.sweep.spans_of.Goals as goal

pub sweep-init : goal.sweep-init
sweep-init c =
    let firsts = c.as_slice-firsts_left.ensures.value in
    rw (c.in_ok-rows.ensures, c.terms_of-terms_left.ensures.list, c.number_of-first.ensures, firsts)
    (sweeping_start _ _ _ _ _ _ c.requires.opening c.requires.inits_inside c.requires.terms_inside
    (rw (← c.number_of-first.ensures, ← c.terms_of-terms_left.ensures.list)
    c.terms_of-terms_left.ensures.rising)
    c.in_ok-firsts.ensures.rises c.in_ok-firsts.ensures.each (omega arith))

pub pass-requires : goal.pass-requires
pass-requires c = can_pass _ _ _ _ _ _ _ _ _ _ _ _ c.sweep.invariant (sym c.in-Some.ensures) _

pub terms_past-terms_left-requires-clause-next : goal.terms_past-terms_left-requires-clause-next
terms_past-terms_left-requires-clause-next c =
    rw (c.started_at-next.ensures, ← c.requires.count)
    (event_is _ _ _ _ _ _ _ _ _ _ _ _ c.requires.inits_inside c.requires.terms_inside
    c.sweep.invariant (sym c.in-Some.ensures)).ranged

pub terms_past-terms_left-requires-clause-left : goal.terms_past-terms_left-requires-clause-left
terms_past-terms_left-requires-clause-left c = rising_lower _ 0 _ c.sweep.invariant.terms_up
    (omega arith)

pub sweep-smaller : goal.sweep-smaller
sweep-smaller c =
    let e = event_is _ _ _ _ _ _ _ _ _ _ _ _ c.requires.inits_inside c.requires.terms_inside
    c.sweep.invariant (sym c.in-Some.ensures) in
    omega (arith, e.inside.within, e.next.above)

pub sweep-preserved : goal.sweep-preserved
sweep-preserved c =
    rw (
      c.rest_firsts-firsts_left.ensures,
      c.terms_past-terms_left.ensures.list,
      c.in_ok-since.ensures.rows,
      c.in_ok-since.ensures.since,
      c.started_at-next.ensures,
    )
    (sweeping_more _ _ _ _ _ _ _ _ _ _ _ _ c.requires.inits_inside c.requires.terms_inside
    c.sweep.invariant (sym c.in-Some.ensures)
    (rw (← c.started_at-next.ensures, ← c.terms_past-terms_left.ensures.list)
    c.terms_past-terms_left.ensures.rising))

pub pass-requires-2 : goal.pass-requires-2
pass-requires-2 c = can_end _ _ _ _ _ _ _ _ _ _ _ c.sweep.invariant (sym c.in_default.ensures)

pub returns : goal.returns
returns c = sweeping_end _ _ _ _ _ _ _ _ _ _ _ (omega arith) c.sweep.invariant
    (sym c.in_default.ensures) _ c.in_ok-pass.ensures.rows
