-- A value that a word names is one of a fluent of the program.
use Rattle.std.proofs.Common.{◌≡◌, ℕ, ◌<◌, ◌^◌, nat_lt, Bool, true, false, ◌&&◌, List, [], length}
use Rattle.std.proofs.Common.{slice_get, Option, Some, None, IfSome, if◌then◌else◌, refl, ◌∙◌, ap}
use Rattle.std.proofs.Common.{ap₂, arith}
use Rattle.std.specs.List.{list_all}
use Rattle.std.specs.Str.{bytes_eq}
use Rattle.std.proofs.lemmas.Bool.Decides.{nat_tests}
use Rattle.std.proofs.lemmas.List.Folds.{list_all_at}
use Rattle.std.proofs.lemmas.List.Quantifiers.{position-Some}
use Rattle.std.proofs.lemmas.Option.{slice_get_within, get_or_from_slice_get}
use Rattle.ground_types.specs.Publication.{value_count}
use Rattle.ground_types.specs.Sound.{IsSound, is_fluent, is_fluent_value, has_kind_of_name}
use Rattle.ground_types.specs.Sound.{kind_agrees}
use Rattle.ground_types.specs.Words.{place_in}
use Rattle.ground_types.specs.declared.program.Name.{Name}
use Rattle.ground_types.specs.declared.program.NameKind.{NameKind}
use Rattle.ground_types.specs.declared.program.NameKind.TheVariants as name_kind
use Rattle.ground_types.specs.declared.program.UnitKind.{UnitKind}
use Rattle.ground_types.specs.declared.program.UnitKind.TheVariants as unit_kind
use Rattle.ground_types.specs.declared.program.Unit.{Unit as GroundUnit}
use Rattle.ground_types.specs.declared.program.Program.{Program}
use Rattle.ground_names.specs.Found.{is_fluent_kind, if_small, value_by, value_named, name_of_unit}

-- what all pass, the one at a place passes
passes_at : {X : Type 0} (p : X → Bool) (xs : List X) (i : ℕ) (x : X) → list_all p xs ≡ true
    → slice_get xs i ≡ Some x → p x ≡ true
passes_at p xs i x all at = by (p x) refl where
  by : (passes : Bool) → p x ≡ passes → p x ≡ true
  by true is = is
  by false is =
      let none : list_all p xs ≡ false =
      list_all_at p xs i x (slice_get_within xs i x at)
      (ap p (get_or_from_slice_get xs i x x at) ∙ is) in
      absurd cc

if_some : (small : Bool) (p v : ℕ) → (if small then Some p else None) ≡ Some v → Some p ≡ Some v
if_some true p v is = is
if_some false p v is = absurd cc

of_small : (place : Option ℕ) (v : ℕ) → if_small place ≡ Some v → place ≡ Some v
of_small None v is = absurd cc
of_small (Some p) v is = if_some (nat_lt p (2 ^ 32)) p v is

-- the unit of a fluent's name is a fluent
fluent_unit : (kind : NameKind) (of_unit : UnitKind) → kind_agrees kind of_unit ≡ true
    → is_fluent_kind kind ≡ true → is_fluent of_unit ≡ true
fluent_unit name_kind.Input of_unit agree fluent = absurd cc
fluent_unit name_kind.Derived of_unit agree fluent = absurd cc
fluent_unit name_kind.Simple (unit_kind.Simple initially initiate terminate) agree fluent = refl
fluent_unit name_kind.Simple (unit_kind.Static exprs) agree fluent = absurd cc
fluent_unit name_kind.Simple (unit_kind.Derived rules) agree fluent = absurd cc
fluent_unit name_kind.Static (unit_kind.Simple initially initiate terminate) agree fluent =
    absurd cc
fluent_unit name_kind.Static (unit_kind.Static exprs) agree fluent = refl
fluent_unit name_kind.Static (unit_kind.Derived rules) agree fluent = absurd cc

fits_if : (fluent : Bool) (unit : GroundUnit) (name : Name) (word : List ℕ) (v : ℕ)
    → is_fluent_kind name.kind ≡ fluent → kind_agrees name.kind unit.kind ≡ true
    → (if fluent then if_small (place_in name.values word) else None) ≡ Some v →
    (is_fluent unit.kind && nat_lt v (length name.values)) ≡ true
fits_if true unit name word v fluent agree is =
    let place : place_in name.values word ≡ Some v
    = of_small (place_in name.values word) v is in
    let within : v < length name.values
    = (position-Some (λ other. bytes_eq other word) name.values v [] place).0 in
    ap₂ (λ (a b : Bool). a && b) (fluent_unit name.kind unit.kind agree fluent)
    (grind (arith, nat_tests))
fits_if false unit name word v fluent agree is = absurd cc

fits_by : (unit : GroundUnit) (name : Option Name) (word : List ℕ) (v : ℕ)
    → has_kind_of_name name unit ≡ true → value_by name word ≡ Some v →
    (is_fluent unit.kind && nat_lt v (value_count name)) ≡ true
fits_by unit None word v agree is = absurd cc
fits_by unit (Some name) word v agree is =
    fits_if (is_fluent_kind name.kind) unit name word v refl agree is

module _ (program : Program) (sound : IsSound program) (number : ℕ) (word : List ℕ) where
  fits_there : (found : Option GroundUnit) (v : ℕ) → slice_get program.units number ≡ found
      → value_by (name_of_unit program found) word ≡ Some v →
      is_fluent_value program found v ≡ true
  fits_there None v at is = absurd cc
  fits_there (Some unit) v at is =
      fits_by unit (slice_get program.names unit.name) word v
      (passes_at (λ unit. has_kind_of_name (slice_get program.names unit.name) unit)
      program.units number unit sound.kinds at) is

  if_found : (value : Option ℕ) → value_named program number word ≡ value
      → IfSome value (λ v. is_fluent_value program (slice_get program.units number) v ≡ true)
  if_found None is = tt
  if_found (Some v) is = fits_there (slice_get program.units number) v refl is

  pub value_fits : IfSome (value_named program number word) (λ v. is_fluent_value program
      (slice_get program.units number) v ≡ true)
  value_fits = if_found (value_named program number word) refl
