use Rattle.std.proofs.Common.{◌≡◌, ◌<◌, length, map, get_or, sym, ap, subst, ◌∙◌, arith}
use Rattle.std.proofs.Common.{MatchOption}
use Rattle.std.proofs.lemmas.Option.{slice_get-get_or}
use Rattle.rule_forms.specs.Forms.{plain}
use Rattle.ground_types.specs.Words.{domain_words, name_words}
use Rattle.word_table.proofs.LookUps.{is_distinct-back}
use Rattle.decl_known.specs.Layers.{IsLayering}
use Rattle.strata_check.specs.Rows.{AreInside, AreRows, HasCircle, IsFirstCircle}
use Rattle.decl_known.specs.Occurrences.{IsFirstCycle}
use Rattle.strata_check.specs.Walks.{AllDone}
use Rattle.strata_check.proofs.Heads.{has_head}
use Rattle.strata_check.proofs.Chains.{inside, first_cycle}
use Rattle.strata_check.proofs.Layered.{is_layering, none_reaches, given}
use Rattle.strata_check.proofs.layering.layers.Goals.{After-as_slice-rows}
use Rattle.strata_check.proofs.layering.layers.Goals as goal

-- the rows hold places of names
are_inside : (c : After-as_slice-rows) → AreInside c.as_slice-rows.result.now
are_inside c =
    let checked = c.args.checked.now in
    let distinct = is_distinct-back (domain_words checked.domains) (name_words checked.names)
    c.requires.distinct in
    subst AreInside (sym c.as_slice-rows.ensures.value) (inside (map plain checked.rules)
    checked.names c.in_ok-list.list.items distinct c.in_ok-list.ensures)

pub invariant_of-graph-clause-inside : goal.invariant_of-graph-clause-inside
invariant_of-graph-clause-inside c =
    are_inside (goal.at.invariant_of-graph-clause-inside c).After-as_slice-rows

pub returns-in-Some-clause-layers : goal.returns-in-Some-clause-layers
returns-in-Some-clause-layers c =
    let checked = c.args.checked.now in
    let rows = c.as_slice-rows.result.now in
    let walked : AllDone c.as_slice-names.result.now rows c.in-Some.marks.items =
    subst (λ o. MatchOption o (HasCircle rows) (λ m. AllDone c.as_slice-names.result.now rows
    m.items)) c.in-Some.is c.in_ok-marks.ensures in
    let all : AllDone checked.names c.in_ok-list.list.items c.in-Some.marks.items =
    subst (λ ns. AllDone ns c.in_ok-list.list.items c.in-Some.marks.items) c.as_slice-names.ensures
    (subst (λ rs. AllDone c.as_slice-names.result.now rs c.in-Some.marks.items)
    c.as_slice-rows.ensures.value walked) in
    subst (IsLayering (map plain checked.rules) checked.names)
    (sym (c.in_ok-layers_of-in-Some.ensures ∙ ap given c.as_slice.ensures.value))
    (is_layering (map plain checked.rules) checked.names c.in_ok-list.list.items
    c.in-Some.marks.items c.in_ok-list.ensures all)

pub returns-in-Some-clause-none : goal.returns-in-Some-clause-none
returns-in-Some-clause-none c =
    let checked = c.args.checked.now in
    none_reaches (map plain checked.rules) checked.names c.in_ok-layers_of-in-Some.field-0
    (returns-in-Some-clause-layers c) (has_head checked.domains checked.names checked.rules
    c.requires.rules) (length checked.names)

pub first_circle-requires-clause-inside : goal.first_circle-requires-clause-inside
first_circle-requires-clause-inside c =
    are_inside (goal.at.first_circle-requires-clause-inside c).After-as_slice-rows

pub returns-clause-cyclic : goal.returns-clause-cyclic
returns-clause-cyclic c =
    λ place line e.
    (let checked = c.args.checked.now in
    let rows = c.in_ok-list.list.items in
    let at = c.in_ok-place-in-None.place in
    let name = get_or checked.names at c.index-names-place.result in
    let shown = (get_or c.as_slice-names.result.now at c.index-names-place.result).line in
    let distinct = is_distinct-back (domain_words checked.domains) (name_words checked.names)
    c.requires.distinct in
    let are : AreRows (map plain checked.rules) checked.names rows = c.in_ok-list.ensures in
    let first : IsFirstCircle rows at = subst (λ rs. IsFirstCircle rs at)
    c.as_slice-rows.ensures.value c.in_ok-place-in-None.ensures in
    let within : at < length checked.names = omega (arith, first.within, are.len) in
    let line_is : shown ≡ name.line = ap (λ ns. (get_or ns at c.index-names-place.result).line)
    c.as_slice-names.ensures in
    let cycle : IsFirstCycle (map plain checked.rules) checked.names at shown =
    first_cycle (map plain checked.rules) checked.names rows distinct are
    (has_head checked.domains checked.names checked.rules c.requires.rules) at shown name first
    (slice_get-get_or checked.names at c.index-names-place.result within) line_is in
    let same_place : at ≡ place = cc in
    let same_line : shown ≡ line = cc in
    subst (λ p. IsFirstCycle (map plain checked.rules) checked.names p line) same_place
    (subst (IsFirstCycle (map plain checked.rules) checked.names at) same_line cycle))
