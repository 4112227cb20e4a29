-- What a unit comes to over the rows of the units that it names is what is published of it.
use Rattle.std.proofs.Common.{◌≡◌, ℕ, ◌+◌, ◌<◌, ◌≤◌, Bool, true, false, ◌&&◌, ◌||◌, List, []}
use Rattle.std.proofs.Common.{◌∷◌, map, flat_map, slice_get, Option, Some, None, length, ◌==◌}
use Rattle.std.proofs.Common.{sym, ◌∙◌, ap}
use Rattle.std.specs.List.{list_all, range_with_len, AllByRecursion}
use Rattle.std.proofs.Math.Bool.{or-false}
use Rattle.std.proofs.Math.Path.{fun_ext}
use Rattle.std.proofs.lemmas.Bool.{and_parts}
use Rattle.ground_types.specs.Meaning.{units_of_rule, units_of_expr, units_of_kind}
use Rattle.ground_types.specs.Members.{contains}
use Rattle.ground_types.specs.Publication.{fluent_rows, event_row, rows_of_kind}
use Rattle.ground_types.specs.Publication.{opening_of, query_table}
use Rattle.ground_types.specs.Recognition.{kind_of, kind_or_idle, values_of, value_of_unit}
use Rattle.ground_types.specs.Recognition.{static_of_unit, derived_of_unit, option_holds, listed}
use Rattle.ground_types.specs.Sound.{IsSound, unit_values, initial_fits, rule_fits, expr_fits}
use Rattle.ground_types.specs.Sound.{is_union, kind_fits}
use Rattle.ground_types.specs.Truth.{Table, is_value, holds, body_holds}
use Rattle.ground_types.specs.Windows.{left, right}
use Rattle.ground_types.specs.declared.entries.Entry.{Entry}
use Rattle.ground_types.specs.declared.program.Expr.{Expr}
use Rattle.ground_types.specs.declared.program.Rule.{Rule}
use Rattle.ground_types.specs.declared.program.Unit.{Unit}
use Rattle.ground_types.specs.declared.program.UnitKind.{UnitKind}
use Rattle.ground_types.specs.declared.program.UnitKind.TheVariants.{Simple, Static, Derived}
use Rattle.ground_types.specs.declared.program.Program.{Program}
use Rattle.event_store.specs.Standing.{Events}
use Rattle.point_rule.specs.Known.{known}
use Rattle.span_algebra.specs.declared.rows.UnitRows.{UnitRows}
use Rattle.delay_revise.specs.Published.{OccurIn, HaveRowsOf}
use Rattle.delay_revise.specs.Working.{rows_over}
use Rattle.delay_revise.proofs.Alike.{row_alike, points_alike, value_alike}
use Rattle.delay_revise.proofs.EachItem.{all_left, all_right, filter_alike, any_alike}
use Rattle.delay_revise.proofs.Expressions.{option_found}
use Rattle.delay_revise.proofs.LookUp.{table_means, body_found, occurs_of}

-- what fits of a simple fluent
pub record DoesFit (program : Program) (count : ℕ) (initiate terminate : List Rule) : Type 0 where
  pub inits : list_all (rule_fits program count) initiate ≡ true
  pub terms : list_all (rule_fits program count) terminate ≡ true

pub fits_simple : (program : Program) (count : ℕ) (initially : Option ℕ) (initiate terminate : List
    Rule) →
    kind_fits program count (Simple initially initiate terminate) ≡ true
    → DoesFit program count initiate terminate
fits_simple program count initially initiate terminate fits =
    let first : Bool = initial_fits count initially in
    let inits : Bool = list_all (rule_fits program count) initiate in
    let terms : Bool = list_all (rule_fits program count) terminate in
    record {
      inits = (and_parts first inits (and_parts (first && inits) terms fits).0).1;
      terms = (and_parts (first && inits) terms fits).1;
    }

module _ (program : Program) (history : List Entry) (k : ℕ) (store : Events) (below : List ℕ)
    (rows : List UnitRows)
    (sound : IsSound program) (events : OccurIn program history k (occurs_of store))
    (have : HaveRowsOf program history k below rows) where
  -- the bodies of rules are true over the rows where they are in query 0
  bodies_found : (count : ℕ) (rules : List Rule) (t : ℕ) → list_all (rule_fits program count) rules
      ≡ true →
      list_all (contains below) (flat_map units_of_rule rules) ≡ true → left program.plan k < t
      → t ≤ right program.plan k →
      AllByRecursion (λ rule. body_holds (known rows store) rule t
      ≡ body_holds (query_table program history k) rule t) rules
  bodies_found count [] t fit done above within = tt
  bodies_found count (rule ∷ rest) t fit done above within =
      let fits = and_parts (rule_fits program count rule) (list_all (rule_fits program count) rest)
      fit in
      let first = all_left (contains below) (units_of_rule rule) (flat_map units_of_rule rest) done
      in
      let later = all_right (contains below) (units_of_rule rule) (flat_map units_of_rule rest) done
      in (
        body_found program history k (occurs_of store) below rows sound events have count rule t
            fits.0 first above within,
        bodies_found count rest t fits.1 later above within,
      )

  rule_values_found : (count : ℕ) (rules : List Rule) (t : ℕ) → list_all (rule_fits program count)
      rules
      ≡ true →
      list_all (contains below) (flat_map units_of_rule rules) ≡ true → left program.plan k < t
      → t ≤ right program.plan k →
      values_of (known rows store) rules t ≡ values_of (query_table program history k) rules t
  rule_values_found count rules t fit done above within = ap (map (λ (rule : Rule). rule.value))
      (filter_alike (λ rule. body_holds (known rows store) rule t)
      (λ rule. body_holds (query_table program history k) rule t) rules
      (bodies_found count rules t fit done above within))

  -- the value of a simple fluent over the rows is that in query 0
  simple_found : (number count v t : ℕ) (initially : Option ℕ) (initiate terminate : List Rule) →
      kind_of program number ≡ Simple initially initiate terminate →
      DoesFit program count initiate terminate
      → list_all (contains below) (units_of_kind (Simple initially initiate terminate)) ≡ true →
      left program.plan k < t → t ≤ right program.plan k + 1 →
      is_value (value_of_unit (known rows store) (listed (opening_of program history k) number)
      (Simple initially initiate terminate) (left program.plan k) t) v
      ≡ holds (query_table program history k) number v t
  simple_found number count v t initially initiate terminate kind fit done above within =
      let opening : Option ℕ = listed (opening_of program history k) number in
      let w = left program.plan k in
      let q = right program.plan k in
      let table : Table = query_table program history k in
      let means = table_means program history k sound in
      let at : table.value number t ≡ value_of_unit table opening (Simple initially initiate
      terminate) w t =
      means.simple_fluents number t ∙ ap (λ (of : UnitKind). value_of_unit table opening of w t)
      kind in
      let none : table.static number v t ≡ false = means.static_fluents number v t
      ∙ ap (λ (of : UnitKind). static_of_unit table of v t) kind in
      let same : value_of_unit (known rows store) opening (Simple initially initiate terminate) w
      t
      ≡ value_of_unit table opening (Simple initially initiate terminate) w t =
      value_alike opening (values_of (known rows store) initiate) (values_of table initiate)
      (values_of (known rows store) terminate)
      (values_of table terminate) w q t above within
      (λ u p low high. ap (λ (l : List ℕ). contains l u) (rule_values_found count initiate p
      fit.inits
      (all_left (contains below) (flat_map units_of_rule initiate)
      (flat_map units_of_rule terminate) done) low high))
      (λ u p low high. ap (λ (l : List ℕ). contains l u) (rule_values_found count terminate p
      fit.terms
      (all_right (contains below) (flat_map units_of_rule initiate)
      (flat_map units_of_rule terminate) done) low high)) in
      ap (λ (o : Option ℕ). is_value o v) (same ∙ sym at)
      ∙ sym (or-false (is_value (table.value number t) v))
      ∙ ap (λ (b : Bool). is_value (table.value number t) v || b) (sym none)

  derived_found : (number t : ℕ) (rules : List Rule) → kind_of program number ≡ Derived rules
      → list_all (rule_fits program 1) rules ≡ true →
      list_all (contains below) (flat_map units_of_rule rules) ≡ true → left program.plan k < t
      → t ≤ right program.plan k →
      derived_of_unit (known rows store) (Derived rules) t
      ≡ (query_table program history k).derived number t
  derived_found number t rules kind fit done above within =
      let table : Table = query_table program history k in
      any_alike (λ rule. body_holds (known rows store) rule t) (λ rule. body_holds table rule t)
      rules (bodies_found 1 rules t fit done above within)
      ∙ sym ((table_means program history k sound).derived_events number t
      ∙ ap (λ (of : UnitKind). derived_of_unit table of t) kind)

  -- a value of a statically determined fluent holds over the rows where it does in query 0
  static_found : (number count v t : ℕ) (exprs : List Expr) → kind_of program number ≡ Static exprs
      → kind_fits program count (Static exprs) ≡ true →
      list_all (contains below) (flat_map units_of_expr exprs) ≡ true → left program.plan k < t
      → t ≤ right program.plan k + 1 →
      static_of_unit (known rows store) (Static exprs) v t ≡ holds (query_table program history k)
      number v t
  static_found number count v t exprs kind fits done above within =
      let w = left program.plan k in
      let table : Table = query_table program history k in
      let means = table_means program history k sound in
      let none : table.value number t ≡ None =
      means.simple_fluents number t ∙ ap (λ (of : UnitKind). value_of_unit table
      (listed (opening_of program history k) number) of w t) kind in
      let at : table.static number v t ≡ option_holds table (slice_get exprs v) t =
      means.static_fluents number v t ∙ ap (λ (of : UnitKind). static_of_unit table of v t) kind in
      option_found program history k store below rows sound events have t above within exprs v
      (and_parts ((length exprs == count) && list_all is_union exprs) (list_all (expr_fits program)
      exprs) fits).1 done
      ∙ sym at ∙ ap (λ (o : Option ℕ). is_value o v || table.static number v t) (sym none)

  kind_found : (number count : ℕ) (kind : UnitKind) → kind_of program number ≡ kind →
      kind_fits program count kind ≡ true → list_all (contains below) (units_of_kind kind) ≡ true →
      rows_over (known rows store) (listed (opening_of program history k) number) count kind
      (left program.plan k) (right program.plan k)
      ≡ rows_of_kind (query_table program history k) number count kind (left program.plan k)
      (right program.plan k)
  kind_found number count (Simple initially initiate terminate) kind fits done =
      let w = left program.plan k in
      let q = right program.plan k in
      let table : Table = query_table program history k in
      ap (λ (of : ℕ → List (ℕ × ℕ)). fluent_rows (map of (range_with_len 0 count)))
      (fun_ext λ v. row_alike (λ t. is_value (value_of_unit (known rows store)
      (listed (opening_of program history k) number) (Simple initially initiate terminate) w t) v)
      (holds table number v) w q
      (λ t above within. simple_found number count v t initially initiate terminate kind
      (fits_simple program count initially initiate terminate fits) done above within))
  kind_found number count (Static exprs) kind fits done =
      let w = left program.plan k in
      let q = right program.plan k in
      ap (λ (of : ℕ → List (ℕ × ℕ)). fluent_rows (map of (range_with_len 0 count)))
      (fun_ext λ v. row_alike (static_of_unit (known rows store) (Static exprs) v)
      (holds (query_table program history k) number v) w q
      (λ t above within. static_found number count v t exprs kind fits done above within))
  kind_found number count (Derived rules) kind fits done =
      let w = left program.plan k in
      let q = right program.plan k in
      let table : Table = query_table program history k in
      ap event_row (points_alike (derived_of_unit (known rows store) (Derived rules))
      (table.derived number) w q
      (λ t above within. derived_found number t rules kind fits done above within))

  -- the rows that a unit comes to over the rows of the units that it names are those that are
  -- published
  pub rows_found : (number : ℕ) (unit : Unit) → slice_get program.units number ≡ Some unit →
      kind_fits program (unit_values program unit) unit.kind ≡ true →
      list_all (contains below) (units_of_kind unit.kind) ≡ true →
      rows_over (known rows store) (listed (opening_of program history k) number)
      (unit_values program unit) unit.kind (left program.plan k) (right program.plan k)
      ≡ rows_of_kind (query_table program history k) number (unit_values program unit) unit.kind
      (left program.plan k) (right program.plan k)
  rows_found number unit at fits done =
      kind_found number (unit_values program unit) unit.kind (ap kind_or_idle at) fits done
