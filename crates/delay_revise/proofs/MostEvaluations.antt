-- How many evaluations a query has at most.
use Rattle.std.proofs.Common.{◌≡◌, ℕ, zero, suc, ◌+◌, ◌*◌, ◌≤◌, Bool, true, false, ◌||◌}
use Rattle.std.proofs.Common.{◌&&◌, eqb, List, [], ◌∷◌, ◌++◌, map, length, get_or, set, slice_get}
use Rattle.std.proofs.Common.{refl, ap, arith, get_or-set_other}
use Rattle.std.specs.Prelude.{sum, sum_by}
use Rattle.std.proofs.lemmas.Bool.Decides.{nat_tests}
use Rattle.std.proofs.lemmas.Bool.{and_parts}
use Rattle.std.proofs.lemmas.List.Sums.{sum_by-cons, sum_by-append}
use Rattle.ground_types.specs.Meaning.{is_layer, are_layers}
use Rattle.ground_types.specs.Members.{contains}
use Rattle.ground_types.specs.Publication.{query_table}
use Rattle.ground_types.specs.Recognition.{kind_or_idle}
use Rattle.ground_types.specs.Sound.{IsSound, rule_count}
use Rattle.ground_types.specs.Touched.{touched, is_unsettled, rules_of, evaluations_of_unit}
use Rattle.ground_types.specs.Touched.{evaluations}
use Rattle.ground_types.specs.Truth.{happens}
use Rattle.ground_types.specs.Windows.{left, right}
use Rattle.ground_types.proofs.Members.{contains_neither}
use Rattle.ground_types.specs.declared.entries.Entry.{Entry}
use Rattle.ground_types.specs.declared.program.Rule.{Rule}
use Rattle.ground_types.specs.declared.program.Unit.{Unit}
use Rattle.ground_types.specs.declared.program.UnitKind.{UnitKind}
use Rattle.ground_types.specs.declared.program.UnitKind.TheVariants.{Simple, Static, Derived}
use Rattle.ground_types.specs.declared.program.Program.{Program}
use Rattle.delay_revise.proofs.LayerParts.{IsFirstUnit, first_unit}
use Rattle.delay_revise.proofs.UnitCounts.{points_few}

-- ---- sums over the units of layers

-- what a list comes to without the number at a place
set_sum : (numbers : List ℕ) (i : ℕ) → sum (set numbers i 0) + get_or numbers i 0 ≡ sum numbers
set_sum [] i = omega arith
set_sum (n ∷ rest) zero = omega (
  arith,
  sum_by-cons (λ (x : ℕ). x) 0 rest,
  sum_by-cons (λ (x : ℕ). x) n rest,
)
set_sum (n ∷ rest) (suc i) = omega (
  arith,
  set_sum rest i,
  sum_by-cons (λ (x : ℕ). x) n (set rest i 0),
  sum_by-cons (λ (x : ℕ). x) n rest,
)

-- what is left of some numbers once those of the units of a layer are taken
record AreLeft (below layer : List ℕ) (size : ℕ → ℕ) (numbers : List ℕ) : Type 0 where
  others : List ℕ
  few : sum_by size layer + sum others ≤ sum numbers
  enough : (unit : ℕ) → contains below unit ≡ false → contains layer unit ≡ false
      → size unit ≤ get_or others unit 0

apart_by : (x unit : ℕ) (b : Bool) → (eqb x unit || b) ≡ false → (unit ≡ x → ⊥) × (b ≡ false)
apart_by x unit true is = (grind (arith, nat_tests), grind (arith, nat_tests))
apart_by x unit false is = (grind (arith, nat_tests), refl)

-- one unit more
left_more : (below : List ℕ) (x : ℕ) (rest : List ℕ) (size : ℕ → ℕ) (numbers : List ℕ)
    → contains below x ≡ false → contains rest x ≡ false → AreLeft below rest size numbers
    → AreLeft below (x ∷ rest) size numbers
left_more below x rest size numbers new once later = record {
  others = set later.others x 0;
  few = omega (
    arith,
    later.few,
    later.enough x new once,
    set_sum later.others x,
    sum_by-cons size x rest,
  );
  enough = λ unit out other.
      let apart : (unit ≡ x → ⊥) × (contains rest unit ≡ false) = apart_by x unit
      (contains rest unit) other in
      omega (
        arith,
        later.enough unit out apart.1,
        get_or-set_other later.others x unit 0 0 apart.0,
      );
}

layer_left : (program : Program) (below layer : List ℕ) (size : ℕ → ℕ) (numbers : List ℕ)
    → is_layer program below layer ≡ true
    → ((unit : ℕ) → contains below unit ≡ false → size unit ≤ get_or numbers unit 0)
    → AreLeft below layer size numbers
layer_left program below [] size numbers is enough = record {
  others = numbers;
  few = omega arith;
  enough = λ unit out other. enough unit out;
}
layer_left program below (x ∷ rest) size numbers is enough =
    let first : IsFirstUnit program below x rest = first_unit program below x rest is in
    left_more below x rest size numbers first.new first.once
    (layer_left program below rest size numbers first.others enough)

-- each unit stands in one layer at most, so a sum over the layers is at most one over all units
layers_few : (program : Program) (below : List ℕ) (layers : List (List ℕ)) (size : ℕ → ℕ)
    (numbers : List ℕ) → are_layers program below layers ≡ true
    → ((unit : ℕ) → contains below unit ≡ false → size unit ≤ get_or numbers unit 0)
    → sum_by (λ layer. sum_by size layer) layers ≤ sum numbers
layers_few program below [] size numbers is enough = omega arith
layers_few program below (layer ∷ rest) size numbers is enough =
    let both = and_parts (is_layer program below layer) (are_layers program (below ++ layer) rest)
    is in
    let here : AreLeft below layer size numbers = layer_left program below layer size numbers
    both.0 enough in
    let later : sum_by (λ layer. sum_by size layer) rest ≤ sum here.others =
    layers_few program (below ++ layer) rest size here.others both.1 (λ unit out.
    let none = contains_neither below layer unit out in
    here.enough unit none.0 none.1) in
    omega (arith, here.few, later, sum_by-cons (λ (units : List ℕ). sum_by size units) layer rest)

-- ---- sums over the rules of units

module _ (size : Rule → ℕ) (most : ℕ) (each : (rule : Rule) → size rule ≤ most) where
  rules_few : (rules : List Rule) → sum_by size rules ≤ length rules * most
  rules_few [] = omega arith
  rules_few (rule ∷ rest) = omega (arith, sum_by-cons size rule rest, each rule, rules_few rest)

  kind_few : (kind : UnitKind) → sum_by size (rules_of kind) ≤ rule_count kind * most
  kind_few (Simple initially initiate terminate) =
      omega (
        arith,
        sum_by-append size initiate terminate,
        rules_few initiate,
        rules_few terminate,
      )
  kind_few (Static exprs) = omega arith
  kind_few (Derived rules) = rules_few rules

  unit_few : (units : List Unit) (unit : ℕ)
      → sum_by size (rules_of (kind_or_idle (slice_get units unit)))
      ≤ get_or (map (λ (u : Unit). rule_count u.kind * most) units) unit 0
  unit_few [] unit = omega arith
  unit_few (u ∷ rest) zero = kind_few u.kind
  unit_few (u ∷ rest) (suc unit) = unit_few rest unit

sizes_few : (most : ℕ) (units : List Unit)
    → sum (map (λ (u : Unit). rule_count u.kind * most) units)
    ≤ sum_by (λ (u : Unit). rule_count u.kind) units * most
sizes_few most [] = omega arith
sizes_few most (u ∷ rest) =
    omega (
      arith,
      sizes_few most rest,
      sum_by-cons (λ (x : ℕ). x) (rule_count u.kind * most)
          (map (λ (u : Unit). rule_count u.kind * most) rest),
      ap (λ (n : ℕ). n * most) (sum_by-cons (λ (u : Unit). rule_count u.kind) u rest),
    )

-- ---- the evaluations of a query

-- a rule has at most as many touched points as a window is long
touched_most : (program : Program) (history : List Entry) (k : ℕ) → IsSound program → (rule : Rule)
    → length (touched program history k rule) ≤ 1000000000000
touched_most program history k sound rule =
    omega (
      arith,
      points_few (λ t. happens (query_table program history k) rule.trigger t
          && is_unsettled program history k rule t) (left program.plan k) (right program.plan k),
      sound.plan.window_most,
    )

-- each of at most 262,144 rules has at most 1,000,000,000,000 touched points
pub evaluations_most : (program : Program) (history : List Entry) (k : ℕ) → IsSound program
    → evaluations program history k ≤ 262144 * 1000000000000
evaluations_most program history k sound =
    let size : Rule → ℕ = λ rule. length (touched program history k rule) in
    omega (
      arith,
      layers_few program [] program.layers (evaluations_of_unit program history k)
          (map (λ (u : Unit). rule_count u.kind * 1000000000000) program.units) sound.layers.order
          (λ unit out. unit_few size 1000000000000 (touched_most program history k sound)
          program.units unit),
      sizes_few 1000000000000 program.units,
      sound.rules_most,
    )
