-- Rows and their shapes: which are those of a program's units, and what keeps them.
use Rattle.std.proofs.Common.{◌≡◌, ℕ, zero, suc, ◌<◌, List, [], ◌∷◌, map, length, cond}
use Rattle.std.proofs.Common.{true, false, Option, Some, None, option_map, IfSome}
use Rattle.std.proofs.Common.{refl, sym, ◌∙◌, ap, ap₂, subst}
use Rattle.std.specs.Prelude.{slice_get, slice_set, position, ◌^◌, nat_lt}
use Rattle.std.proofs.lemmas.List.{length-map, length-replicate}
use Rattle.std.proofs.lemmas.List.Quantifiers.{position-Some}
use Rattle.std.proofs.lemmas.Option.{slice_get-map, slice_get_within}
use Rattle.span_algebra.specs.Normal.{covers}
use Rattle.span_algebra.specs.declared.rows.UnitRows.{UnitRows}
use Rattle.span_algebra.specs.declared.rows.UnitRows.TheVariants.{Fluent, Event}
use Rattle.ground_types.specs.declared.program.Unit.{Unit}
use Rattle.ground_types.specs.declared.program.Program.{Program}
use Rattle.layer_cache.specs.Cached.{unit_shape, unit_shapes, empty_rows, all_empty, small_value}
use Rattle.layer_cache.specs.Cached.{first_value_at}
use Rattle.layer_cache.specs.Shapes.{shape, shapes, empty_of, emptied, IsValueOf}

-- ---- the shapes of rows

-- rows that are there have their shape
pub shape_at : (rows : List UnitRows) (unit : ℕ) (row : UnitRows)
    → slice_get rows unit ≡ Some row → slice_get (shapes rows) unit ≡ Some (shape row)
shape_at rows unit row at = slice_get-map shape rows unit ∙ ap (option_map shape) at

-- a unit whose shape is known has rows
pub within_shapes : (rows : List UnitRows) (unit : ℕ) (kind : Option ℕ)
    → slice_get (shapes rows) unit ≡ Some kind → unit < length rows
within_shapes rows unit kind at =
    subst (λ (size : ℕ). unit < size) (length-map rows shape)
    (slice_get_within (shapes rows) unit kind at)

-- rows of the unit's shape may be put, and all shapes stay
pub shapes_put : (rows : List UnitRows) (unit : ℕ) (put : UnitRows)
    → slice_get (shapes rows) unit ≡ Some (shape put)
    → shapes (slice_set rows unit put) ≡ shapes rows
shapes_put [] unit put at = refl
shapes_put (row ∷ rest) zero put at = cc
shapes_put (row ∷ rest) (suc unit) put at =
    ap (λ (kinds : List (Option ℕ)). shape row ∷ kinds) (shapes_put rest unit put at)

pub shape_of_empty : (kind : Option ℕ) → shape (empty_of kind) ≡ kind
shape_of_empty (Some count) = ap Some (length-replicate count [])
shape_of_empty None = refl

-- so may the empty rows in place of those that are there
pub shapes_emptied : (rows : List UnitRows) (unit : ℕ) (row : UnitRows)
    → slice_get rows unit ≡ Some row → shapes (slice_set rows unit (empty_of (shape row)))
    ≡ shapes rows
shapes_emptied rows unit row at =
    shapes_put rows unit (empty_of (shape row))
    (shape_at rows unit row at ∙ ap Some (sym (shape_of_empty (shape row))))

-- what holds of the shape of rows that are there holds of that of the unit
pub at_shape : (rows : List UnitRows) (unit : ℕ) (row : UnitRows) (P : Option ℕ → Type 0)
    → slice_get rows unit ≡ Some row → P (shape row) → IfSome (slice_get (shapes rows) unit) P
at_shape rows unit row P at here = rw (shape_at rows unit row at) here

-- rows that are emptied keep their shapes
pub shapes_cleared : (rows : List UnitRows) → shapes (map emptied rows) ≡ shapes rows
shapes_cleared [] = refl
shapes_cleared (row ∷ rest) =
    ap₂ (λ (kind : Option ℕ) (kinds : List (Option ℕ)). kind ∷ kinds)
    (shape_of_empty (shape row)) (shapes_cleared rest)

-- ---- the shapes of a program's units

empty_shapes : (program : Program) (units : List Unit)
    → shapes (map (empty_rows program) units) ≡ map (unit_shape program) units
empty_shapes program [] = refl
empty_shapes program (unit ∷ rest) =
    ap₂ (λ (kind : Option ℕ) (kinds : List (Option ℕ)). kind ∷ kinds)
    (shape_of_empty (unit_shape program unit)) (empty_shapes program rest)

-- the empty rows of a program have the shapes of its units
pub shapes_of_empty : (program : Program) → shapes (all_empty program) ≡ unit_shapes program
shapes_of_empty program = empty_shapes program program.units

-- there are rows for each unit
pub size_by_shapes : (program : Program) (rows : List UnitRows) → shapes rows ≡ unit_shapes program
    → length rows ≡ length program.units
size_by_shapes program rows is =
    sym (length-map rows shape) ∙ ap (λ (kinds : List (Option ℕ)). length kinds) is
    ∙ length-map program.units (unit_shape program)

-- what may be put for a unit: rows of its shape
pub unit_shape_at : (program : Program) (rows : List UnitRows) (number : ℕ) (unit : Unit)
    → shapes rows ≡ unit_shapes program → slice_get program.units number ≡ Some unit
    → slice_get (shapes rows) number ≡ Some (unit_shape program unit)
unit_shape_at program rows number unit is at =
    ap (λ (kinds : List (Option ℕ)). slice_get kinds number) is
    ∙ slice_get-map (unit_shape program) program.units number
    ∙ ap (option_map (unit_shape program)) at

-- the rows that a unit has are of its shape
pub row_has_unit_shape : (program : Program) (rows : List UnitRows) (number : ℕ) (unit : Unit)
    (row : UnitRows) → shapes rows ≡ unit_shapes program
    → slice_get program.units number ≡ Some unit → slice_get rows number ≡ Some row
    → shape row ≡ unit_shape program unit
row_has_unit_shape program rows number unit row is at here =
    let known : slice_get (shapes rows) number ≡ Some (unit_shape program unit) =
    unit_shape_at program rows number unit is at in
    let found : slice_get (shapes rows) number ≡ Some (shape row) =
    shape_at rows number row here in
    cc

-- ---- opening values

small_within : (found : Option ℕ) (count : ℕ) → ((place : ℕ) → found ≡ Some place → place < count)
    → IfSome (small_value found) (λ v. v < count)
small_within None count below = tt
small_within (Some v) count below =
    elim (nat_lt v (2 ^ 32)) as (λ b. IfSome (cond b (Some v) None) (λ v. v < count)) [
      | true ↦ below v refl
      | false ↦ tt
    ]

-- the first value that rows have at a point is one of those that they tell of
first_within : (row : UnitRows) (t : ℕ)
    → IfSome (first_value_at (Some row) t) (IsValueOf (Some (shape row)))
first_within (Fluent rows) t =
    small_within (position (λ row. covers row t) rows) (length rows)
    (λ place is. (position-Some (λ row. covers row t) rows place [] is).0)
first_within (Event points) t = tt

-- the same of the old rows of a unit, where old and new rows have the same shapes
pub opening_within : (rows before : List UnitRows) (unit : ℕ) (row : UnitRows) (t : ℕ)
    (opening : Option ℕ) → shapes rows ≡ shapes before → slice_get before unit ≡ Some row
    → opening ≡ first_value_at (Some row) t
    → IfSome opening (IsValueOf (slice_get (shapes rows) unit))
opening_within rows before unit row t opening same at is =
    let here : slice_get (shapes rows) unit ≡ Some (shape row) =
    ap (λ (kinds : List (Option ℕ)). slice_get kinds unit) same ∙ shape_at before unit row at in
    rw (is, here) (first_within row t)
