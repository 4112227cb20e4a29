use Rattle.std.proofs.Common.{◌≡◌, ◌++◌, length, filter_map, zip, take, ap, ◌∙◌, arith}
use Rattle.std.proofs.lemmas.List.{length_push, take_all}
use Rattle.std.proofs.lemmas.Iterator.{YieldsList-from_slice, YieldsList-from_zip}
use Rattle.std.proofs.lemmas.Iterator.Consumers.{YieldsList-turn, YieldsList-end}
use Rattle.decl_known.specs.Rules.{variable_at}
use Rattle.decl_known.specs.Gathered.{places_of}
use Rattle.decl_known.proofs.Gathering.{one_more_kept}
use Rattle.decl_known.proofs.variables.add_places_of.Goals as goal

pub loop-term-preserved : goal.loop-term-preserved
loop-term-preserved c =
    let at = YieldsList-turn (YieldsList-from_zip {s = c.into_iter-term-iterator.result}
    (YieldsList-from_slice c.args.terms.now cc) (YieldsList-from_slice c.args.domains.now cc))
    c.loop-term.yielded c.loop-term.term-iterator c.loop-term.yielded_by c.next.result
    c.next.new.self (c.in-Some.term, c.in-Some.domain) c.in-Some.is c.next.ensures.steps in
    one_more_kept (λ place. variable_at place.0 place.1) (zip c.args.terms.now c.args.domains.now)
    (length c.loop-term.yielded) _ (c.in-Some.term.now, c.in-Some.domain.now)
    (places_of c.args.into.now.items) (places_of c.loop-term.into.items)
    (places_of c.add_place.new.into.items)
    at (length_push c.loop-term.yielded (c.in-Some.term, c.in-Some.domain))
    c.in_ok-add_place.ensures c.loop-term.invariant

pub returns : goal.returns
returns c =
    let end = YieldsList-end (YieldsList-from_zip {s = c.into_iter-term-iterator.result}
    (YieldsList-from_slice c.args.terms.now cc) (YieldsList-from_slice c.args.domains.now cc))
    c.loop-term.yielded c.loop-term.term-iterator c.loop-term.yielded_by c.next.result
    c.next.new.self c.in-None.is c.next.ensures.steps in
    let all : take (length c.loop-term.yielded) (zip c.args.terms.now c.args.domains.now)
    ≡ zip c.args.terms.now c.args.domains.now = take_all _ _ (omega (arith, end.1)) in
    c.loop-term.invariant ∙ ap (λ l. places_of c.args.into.now.items ++ filter_map (λ place.
    variable_at place.0 place.1) l) all
