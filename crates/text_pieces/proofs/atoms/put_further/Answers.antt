use Rattle.std.proofs.Common.{◌++◌, List, ℕ, length, codes, append-nil, sym, ◌∙◌, ap}
use Rattle.std.specs.Prelude.{flat_map}
use Rattle.std.proofs.lemmas.List.{length_push}
use Rattle.std.proofs.lemmas.List.Folds.{flat_map-map}
use Rattle.std.proofs.lemmas.Slice.Zip.{zip_turn, zip_end}
use Rattle.ground_types.specs.Words.{entity_word}
use Rattle.text_pieces.proofs.LineTexts.{pair_push, pairs_whole, grown}
use Rattle.text_pieces.proofs.atoms.put_further.Goals as goal

pub loop-domain-preserved : goal.loop-domain-preserved
loop-domain-preserved c =
    let turn = zip_turn c.args.places.now c.args.args.now c.loop-domain.yielded
    c.into_iter-domain-iterator.result c.loop-domain.domain-iterator c.next.new.self
    c.next.result
    (cc) (cc) c.loop-domain.yielded_by (c.in-Some.domain, c.in-Some.entity) c.in-Some.is
    c.next.ensures.steps in
    let more = pair_push (λ (place : ℕ × ℕ). codes "," ++ entity_word c.args.domains.now place)
    c.args.places.now c.args.args.now (length c.loop-domain.yielded)
    c.in-Some.domain.now c.in-Some.entity.now turn _ (length_push c.loop-domain.yielded
    (c.in-Some.domain, c.in-Some.entity)) in
    grown c.args.out.now.items _ _ _ _ c.loop-domain.invariant
    (c.in_ok-put_all.ensures
    ∙ ap (λ (word : List ℕ). c.loop-domain.out.items ++ (codes "," ++ word))
    (append-nil c.entity_word-word.result.now ∙ c.entity_word-word.ensures))
    ∙ ap (λ (l : List ℕ). c.args.out.now.items ++ l) (sym more)

pub returns : goal.returns
returns c =
    let count = zip_end c.args.places.now c.args.args.now c.loop-domain.yielded
    c.into_iter-domain-iterator.result c.loop-domain.domain-iterator c.next.new.self
    c.next.result
    (cc) (cc) c.loop-domain.yielded_by c.in-None.is c.next.ensures.steps in
    c.loop-domain.invariant
    ∙ ap (λ (l : List (ℕ × ℕ)). c.args.out.now.items ++ flat_map (λ (place : ℕ × ℕ). codes ","
    ++ entity_word c.args.domains.now place) l)
    (pairs_whole c.args.places.now c.args.args.now (length c.loop-domain.yielded) count)
    ∙ ap (λ (l : List ℕ). c.args.out.now.items ++ l)
    (sym (flat_map-map (λ (word : List ℕ). codes "," ++ word) (entity_word c.args.domains.now)
    _))
