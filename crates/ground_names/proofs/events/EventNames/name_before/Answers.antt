use Rattle.std.proofs.Common.{◌≡◌, ℕ, ◌-◌, List, None, Bor, map, slice_get, arith}
use Rattle.std.proofs.Common.{option_copied, option_and_then, subst, sym, ap, ◌∙◌, true}
use Rattle.std.specs.List.{list_all}
use Rattle.std.specs.List.Sorted.{IsNonDecreasingBy}
use Rattle.ground_types.specs.declared.program.Name.{Name}
use Rattle.ground_types.specs.declared.program.Program.{Program}
use Rattle.ground_names.specs.Counted.{has_small_numbers}
use Rattle.ground_names.specs.EventAtoms.{event_atoms}
use Rattle.ground_names.specs.EventNames.{inputs, head_at, IsSplit}
use Rattle.ground_names.proofs.InputEvents.{inputs_rise, found_at, found_before, lent_first}
use Rattle.ground_names.proofs.InputEvents.{lent_passes}
use Rattle.ground_names.proofs.events.EventNames.name_before.Goals as goal

abbrev seen : List (Bor Name) → List Name
seen names = map (λ name. name.now) names

split_of : (names : List Name) (event k : ℕ) (lent : List (Bor Name)) → seen lent ≡ names
    → IsSplit event (seen lent) k → IsSplit event names k
split_of names event k lent are split = subst (λ l. IsSplit event l k) are split

pub begun-count-requires : goal.begun-count-requires
begun-count-requires c =
    subst (λ l. IsNonDecreasingBy (λ (name : Name). name.first) l)
    (sym (ap seen c.as_slice-names.ensures.value ∙ c.self.invariant.3))
    (inputs_rise c.self.inside.program.now c.self.invariant.0)

pub returns-then-count-eq0-clause-found : goal.returns-then-count-eq0-clause-found
returns-then-count-eq0-clause-found c =
    let program = c.self.inside.program.now in
    let are = ap seen c.as_slice-names.ensures.value ∙ c.self.invariant.3 in
    let split = split_of (inputs program.names) c.args.event c.begun-count.result
    c.as_slice-names.result.now are c.begun-count.ensures in
    subst (λ (p : Program). slice_get (event_atoms p) c.args.event ≡ None) c.self.view_is
    (found_at program c.args.event 0 c.self.invariant.0
    (subst (λ k. IsSplit c.args.event (inputs program.names) k) c.if-count-eq0.true split))

pub returns-clause-found : goal.returns-clause-found
returns-clause-found c =
    let program = c.self.inside.program.now in
    let are = ap seen c.as_slice-names.ensures.value ∙ c.self.invariant.3 in
    let split = split_of (inputs program.names) c.args.event c.begun-count.result
    c.as_slice-names.result.now are c.begun-count.ensures in
    subst (λ (p : Program). slice_get (event_atoms p) c.args.event
    ≡ option_and_then (head_at p.domains c.args.event) (option_copied c.name_at.result))
    c.self.view_is
    (found_before program c.args.event c.begun-count.result c.self.invariant.0 split
    (omega (arith, c.if-count-eq0.false))
    ∙ ap (option_and_then (head_at program.domains c.args.event))
    (sym (c.name_at.ensures ∙ ap (λ l. slice_get l (c.begun-count.result - 1)) are)))

pub returns-clause-before : goal.returns-clause-before
returns-clause-before c =
    let program = c.self.inside.program.now in
    let are = ap seen c.as_slice-names.ensures.value ∙ c.self.invariant.3 in
    let split = split_of (inputs program.names) c.args.event c.begun-count.result
    c.as_slice-names.result.now are c.begun-count.ensures in
    lent_first program.names c.args.event c.begun-count.result
    (omega (arith, c.if-count-eq0.false)) c.name_at.result
    (c.name_at.ensures ∙ ap (λ l. slice_get l (c.begun-count.result - 1)) are) split

pub returns-clause-small : goal.returns-clause-small
returns-clause-small c =
    let program = c.self.inside.program.now in
    let are = ap seen c.as_slice-names.ensures.value ∙ c.self.invariant.3 in
    lent_passes program.names c.args.event c.begun-count.result
    (omega (arith, c.if-count-eq0.false)) c.name_at.result
    (c.name_at.ensures ∙ ap (λ l. slice_get l (c.begun-count.result - 1)) are)
    (has_small_numbers c.args.self.now.domains)
    (subst (λ (p : Program). list_all (has_small_numbers p.domains) program.names ≡ true)
    c.self.view_is c.self.invariant.1)
