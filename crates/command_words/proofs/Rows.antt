-- The rows of matches: what one more use of an argument changes.
use Rattle.std.proofs.Common.{◌≡◌, true, false, refl, sym, ap, subst, List, [], ◌∷◌}
use Rattle.std.proofs.Common.{◌++◌, Option, Some, None, inl, inr, true≢false}
use Rattle.std.specs.Prelude.{find, option_map, is_some}
use Rattle.std.specs.Str.{bytes_eq}
use Rattle.std.proofs.lemmas.Bool.{cases_Bool}
use Rattle.std.proofs.lemmas.Slice.Eq.{bytes_eq-Decides}
use Rattle.clap.specs.Walk.{Row, Text, with_values, without, has_row}
use Rattle.clap.specs.declared.builder.value_parser.Reading.{Reading}
use Rattle.clap.specs.declared.parser.matches.ValueSource.{ValueSource}

-- how the first row of an id is read, and its values
abbrev pub pick : Text → List Row → Option (Reading × List Text)
pick id rows = option_map (λ r. (r.reading, r.values)) (find (λ r. bytes_eq r.id id) rows)

pub differs : (id other : Text) (x : Text) → bytes_eq x id ≡ true → bytes_eq id other ≡ false
    → bytes_eq x other ≡ false
differs id other x same apart =
    let is : x ≡ id = (bytes_eq-Decides x id).0 same in
    subst (λ y. bytes_eq y other ≡ false) (sym is) apart

-- another id has what it had
pub other_kept : (id other : Text) (how : Reading) (source : ValueSource) (values : List Text)
    (rows : List Row) → bytes_eq id other ≡ false
    → pick other (with_values id how source values rows) ≡ pick other rows
other_kept id other how source values [] apart = rw apart refl
other_kept id other how source values (row ∷ rows) apart = elim (cases_Bool (bytes_eq row.id id)) [
  | inl same ↦ rw (same, differs id other row.id same apart) refl
  | inr not ↦ elim (cases_Bool (bytes_eq row.id other)) [
    | inl here ↦ rw (not, here) refl
    | inr there ↦ rw (not, there) (other_kept id other how source values rows apart)
  ]
]

-- an id has its values after those that it had
abbrev pub added : Reading → List Text → Option (Reading × List Text) → Reading × List Text
added how values None = (how, values)
added how values (Some p) = (p.0, p.1 ++ values)

pub same_added : (id : Text) (how : Reading) (source : ValueSource) (values : List Text)
    (rows : List Row) → pick id (with_values id how source values rows)
    ≡ Some (added how values (pick id rows))
same_added id how source values [] =
    let same : bytes_eq id id ≡ true = (bytes_eq-Decides id id).1 refl in rw same refl
same_added id how source values (row ∷ rows) = elim (cases_Bool (bytes_eq row.id id)) [
  | inl same ↦ rw (same, same) refl
  | inr not ↦ rw (not, not) (same_added id how source values rows)
]

-- where an id has no row, none is taken away
pub none_without : (id : Text) (rows : List Row) → pick id rows ≡ None → without id rows ≡ rows
none_without id [] none = refl
none_without id (row ∷ rows) none = elim (cases_Bool (bytes_eq row.id id)) [
  | inl same ↦ absurd (true≢false (ap is_some (rw same at none)))
  | inr not ↦ rw not (ap (λ rs. row ∷ rs) (none_without id rows (rw not at none)))
]

pub has_row_is : (id : Text) (rows : List Row) → has_row id rows ≡ is_some (pick id rows)
has_row_is id [] = refl
has_row_is id (row ∷ rows) = elim (cases_Bool (bytes_eq row.id id)) [
  | inl same ↦ rw same refl
  | inr not ↦ rw not (has_row_is id rows)
]
