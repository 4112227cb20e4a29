-- What expressions need, and the rows of those of a statically determined fluent.
use Rattle.std.proofs.Common.{Option, ◌≡◌, ℕ, suc, ◌+◌, ◌<◌, ◌≤◌, nat_lt, leb, ltb, Bool, true}
use Rattle.std.proofs.Common.{false, not}
use Rattle.std.proofs.Common.{◌&&◌, ◌==◌, List, [], ◌∷◌, ◌++◌, map, length, take, take_all, get_or}
use Rattle.std.proofs.Common.{slice_get, Some, refl, sym, ◌∙◌, ap, ap₂, arith}
use Rattle.std.specs.List.{list_all, range_with_len}
use Rattle.std.proofs.lemmas.Bool.Decides.{nat_tests}
use Rattle.std.proofs.lemmas.List.{map-append, map_more}
use Rattle.std.proofs.lemmas.Bool.{and_parts, eqb-true}
use Rattle.ground_types.specs.Meaning.{units_of_expr, units_of_members}
use Rattle.ground_types.specs.Publication.{fluent_rows}
use Rattle.ground_types.specs.Recognition.{static_of_unit, option_holds}
use Rattle.ground_types.specs.Rows.{row, covers, IsRisingFrom, IsRowByPoints}
use Rattle.ground_types.specs.Sound.{member_count, expr_fits, members_fit, is_union, kind_fits}
use Rattle.ground_types.specs.Truth.{expr_holds}
use Rattle.ground_types.proofs.Rows.{covers_hit, row_from_points}
use Rattle.ground_types.specs.declared.program.Expr.{Expr, Row, Union', Intersect', Complement'}
use Rattle.ground_types.specs.declared.program.Expr.{Row_of-Expr, end_of-Expr, more_of-Expr}
use Rattle.ground_types.specs.declared.program.UnitKind.{UnitKind}
use Rattle.ground_types.specs.declared.program.UnitKind.TheVariants.{Static}
use Rattle.ground_types.specs.declared.program.Program.{Program}
use Rattle.event_store.specs.Standing.{Events}
use Rattle.layer_cache.specs.Told.{told}
use Rattle.point_rule.specs.Known.{known}
use Rattle.simple_fluent.specs.Rows.{pairs}
use Rattle.span_algebra.specs.Normal.{IsNormal, IsNormalFrom, covers as has_span}
use Rattle.span_algebra.specs.declared.spans.Span.{Span}
use Rattle.span_algebra.specs.declared.rows.UnitRows.{UnitRows}
use Rattle.static_fluent.specs.Constructs.{has_rows, has_members, all_have_members}
use Rattle.static_fluent.proofs.Inside.{expr_inside}
use Rattle.delay_revise.specs.Working.{rows_over, IsInWindow}
use Rattle.delay_revise.proofs.Alike.{row_alike}
use Rattle.delay_revise.proofs.EachItem.{all_both}
use Rattle.delay_revise.proofs.Expressions.{expr_told}
use Rattle.delay_revise.proofs.LayerParts.{all_more}
use Rattle.query_ask.proofs.Reading.{covers_pairs}
use Rattle.delay_revise.proofs.Naming.{fluent_known}

-- ---- what fits is what is needed

module _ (program : Program) where
  mutual
    expr_members : (expr : Expr) → expr_fits program expr ≡ true → has_members expr ≡ true
    expr_members (Row unit v) fits = refl
    expr_members (Union' shape members) fits = all_members members fits
    expr_members (Intersect' shape members) fits =
        ap₂ (λ (a b : Bool). a && b) (and_parts (not (member_count members == 0))
        (members_fit program members) fits).0
        (all_members members (and_parts (not (member_count members == 0))
        (members_fit program members) fits).1)
    expr_members (Complement' p first shape others) fits =
        ap₂ (λ (a b : Bool). a && b) (expr_members first (and_parts (expr_fits program first)
        (members_fit program others) fits).0)
        (all_members others (and_parts (expr_fits program first) (members_fit program others)
        fits).1)

    all_members : {m : _} (members : Row_of-Expr m) → members_fit program members ≡ true
        → all_have_members members ≡ true
    all_members end_of-Expr fits = refl
    all_members (more_of-Expr member rest) fits =
        ap₂ (λ (a b : Bool). a && b) (expr_members member (and_parts (expr_fits program member)
        (members_fit program rest) fits).0)
        (all_members rest (and_parts (expr_fits program member) (members_fit program rest) fits).1)

  mutual
    expr_named : (expr : Expr) → expr_fits program expr ≡ true → has_rows (length program.units)
        expr ≡ true
    expr_named (Row unit v) fits = ap (λ (b : Bool). b && true) (fluent_known program unit v
        (slice_get program.units unit) refl fits)
    expr_named (Union' shape members) fits = members_named members fits
    expr_named (Intersect' shape members) fits =
        members_named members (and_parts (not (member_count members == 0))
        (members_fit program members) fits).1
    expr_named (Complement' p first shape others) fits =
        let fit = and_parts (expr_fits program first) (members_fit program others) fits in
        all_both (λ unit. nat_lt unit (length program.units)) (units_of_expr first)
        (units_of_members others) (expr_named first fit.0) (members_named others fit.1)

    members_named : {m : _} (members : Row_of-Expr m) → members_fit program members ≡ true →
        list_all (λ unit. nat_lt unit (length program.units)) (units_of_members members) ≡ true
    members_named end_of-Expr fits = refl
    members_named (more_of-Expr member rest) fits =
        let fit = and_parts (expr_fits program member) (members_fit program rest) fits in
        all_both (λ unit. nat_lt unit (length program.units)) (units_of_expr member)
        (units_of_members rest) (expr_named member fit.0) (members_named rest fit.1)

-- what is known of a statically determined fluent whose expressions fit
pub record IsStatic (count values : ℕ) (exprs : List Expr) : Type 0 where
  pub many : length exprs ≡ values
  pub rows : list_all (has_rows count) exprs ≡ true
  pub members : list_all has_members exprs ≡ true

pub static_of : (program : Program) (rows : List UnitRows) (values : ℕ) (kind : UnitKind)
    (exprs : List Expr) → kind_fits program values kind ≡ true →
    length rows ≡ length program.units → kind ≡ Static exprs → IsStatic (length rows) values exprs
static_of program rows values kind exprs fits size is =
    let fit : ((length exprs == values) && list_all is_union exprs && list_all (expr_fits program)
    exprs) ≡ true =
    ap (kind_fits program values) (sym is) ∙ fits in
    let each : list_all (expr_fits program) exprs ≡ true =
    (and_parts ((length exprs == values) && list_all is_union exprs) (list_all (expr_fits program)
    exprs) fit).1 in
    record {
      many = eqb-true (length exprs) values (and_parts (length exprs == values)
          (list_all is_union exprs) (and_parts ((length exprs == values) && list_all is_union exprs)
          (list_all (expr_fits program) exprs) fit).0).0;
      rows = ap (λ (n : ℕ). list_all (has_rows n) exprs) size ∙ all_more (expr_fits program)
          (has_rows (length program.units)) exprs (expr_named program) each;
      members = all_more (expr_fits program) has_members exprs (expr_members program) each;
    }

-- ---- a row by its points

rising_from : (floor : ℕ) (spans : List Span) → IsNormalFrom floor spans
    → IsRisingFrom floor (pairs spans)
rising_from floor [] normal = tt
rising_from floor (s ∷ rest) normal = (normal.0, normal.1, rising_from (s.until + 1) rest normal.2)

-- a list begins no lower than its points
begins_above : (floor w : ℕ) (xs : List (ℕ × ℕ)) → ((t : ℕ) → covers xs t ≡ true → w < t)
    → IsRisingFrom floor xs → IsRisingFrom w xs
begins_above floor w [] above rising = tt
begins_above floor w (s ∷ rest) above rising =
    let first : w < s.0 + 1 = above (s.0 + 1) (covers_hit s rest (s.0 + 1) (omega arith)
    (omega (arith, rising.1))) in
    (omega (arith, first), rising.1, rising.2)

inside_by : (w q t : ℕ) (b : Bool) → (b ≡ true → (w < t) × (t ≤ q + 1))
    → b ≡ (ltb w t && leb t (q + 1) && b)
inside_by w q t true inside =
    let low : w < t = (inside refl).0 in
    let high : t ≤ q + 1 = (inside refl).1 in
    grind (arith, nat_tests)
inside_by w q t false inside = grind (arith, nat_tests)

-- a normal list that has the points of a test, all of them in the window, is its row
row_of_points : (test : ℕ → Bool) (w q : ℕ) (spans : List Span) → w ≤ q → IsNormal spans
    → ((t : ℕ) → has_span spans t ≡ test t) →
    ((t : ℕ) → test t ≡ true → (w < t) × (t ≤ q + 1)) → pairs spans ≡ row test w q
row_of_points test w q spans le normal same inside =
    let each : (t : ℕ) → covers (pairs spans) t ≡ test t = λ t. sym (covers_pairs spans t)
    ∙ same t in
    let by_points : IsRowByPoints test w q (pairs spans) = record {
      rising = begins_above 0 w (pairs spans) (λ t is. (inside t (sym (each t) ∙ is)).0)
          (rising_from 0 spans normal);
      each = λ t. each t ∙ inside_by w q t (test t) (inside t);
    } in
    row_from_points test w q (pairs spans) le by_points

-- the spans of an expression are its row
pub expr_row : (rows : List UnitRows) (expr : Expr) (spans : List Span) (w q : ℕ) → w ≤ q
    → IsInWindow w q rows → has_members expr ≡ true →
    IsNormal spans → ((t : ℕ) → has_span spans t ≡ expr_holds (told rows) expr t)
    → pairs spans ≡ row (expr_holds (told rows) expr) w q
expr_row rows expr spans w q le inside members normal same =
    row_of_points (expr_holds (told rows) expr) w q spans le normal same
    (expr_inside rows w q inside expr members)

-- ---- the rows of all expressions

-- the row of one more
pub rows_more : (rows : List UnitRows) (exprs : List Expr) (i : ℕ) (expr : Expr)
    (before after : List (List Span)) (made : List Span) (w q : ℕ) →
    i < length exprs → expr ≡ get_or exprs i expr → map pairs before
    ≡ map (λ expr. row (expr_holds (told rows) expr) w q) (take i exprs) →
    pairs made ≡ row (expr_holds (told rows) expr) w q → after ≡ before ++ made ∷ [] →
    map pairs after ≡ map (λ expr. row (expr_holds (told rows) expr) w q) (take (i + 1) exprs)
rows_more rows exprs i expr before after made w q within is old this new =
    ap (map pairs) new ∙ map-append pairs before (made ∷ [])
    ∙ ap₂ (λ (xs : List (List (ℕ × ℕ))) (x : List (ℕ × ℕ)). xs ++ x ∷ []) old (this
    ∙ ap (λ expr. row (expr_holds (told rows) expr) w q) is)
    ∙ sym (map_more (λ expr. row (expr_holds (told rows) expr) w q) exprs i expr within)

pub rows_done : (rows : List UnitRows) (exprs : List Expr) (i : ℕ) (found : List (List Span))
    (w q : ℕ) → length exprs ≤ i →
    map pairs found ≡ map (λ expr. row (expr_holds (told rows) expr) w q) (take i exprs) →
    map pairs found ≡ map (λ expr. row (expr_holds (told rows) expr) w q) exprs
rows_done rows exprs i found w q end is = is
    ∙ ap (map (λ expr. row (expr_holds (told rows) expr) w q)) (take_all i exprs end)

-- a list item by item, and by place
by_place : {X Y : Type 0} (g : X → Y) (f : ℕ → Y) (a : ℕ) (xs : List X)
    → ((k n : ℕ) (x : X) → n ≡ a + k → slice_get xs k ≡ Some x → g x ≡ f n) →
    map g xs ≡ map f (range_with_len a (length xs))
by_place g f a [] each = refl
by_place {X} {Y} g f a (x ∷ xs) each =
    ap₂ (λ (y : Y) (ys : List Y). y ∷ ys) (each 0 a x (omega arith) refl)
    (by_place g f (a + 1) xs (λ k n y is at. each (suc k) n y (omega arith) at))

option_row : (rows : List UnitRows) (store : Events) (exprs : List Expr) (w q k n : ℕ)
    (expr : Expr) → n ≡ 0 + k → slice_get exprs k ≡ Some expr →
    row (expr_holds (told rows) expr) w q ≡ row (static_of_unit (known rows store) (Static exprs)
    n) w q
option_row rows store exprs w q k n expr is at =
    let there : slice_get exprs n ≡ Some expr = ap (slice_get exprs) (let same : n ≡ k =
    omega arith in same) ∙ at in
    row_alike (expr_holds (told rows) expr) (static_of_unit (known rows store) (Static exprs) n) w q
    (λ t low high. expr_told rows store t expr ∙ ap (λ o. option_holds (known rows store) o t)
    (sym there))

-- the rows of its expressions are those of a statically determined fluent
pub static_rows_are : (rows : List UnitRows) (store : Events) (opening : Option ℕ) (kind : UnitKind)
    (exprs list : List Expr) (made : List (List Span)) (values w q : ℕ) →
    kind ≡ Static exprs → length exprs ≡ values → list ≡ exprs → map pairs made
    ≡ map (λ expr. row (expr_holds (told rows) expr) w q) list →
    fluent_rows (map pairs made) ≡ rows_over (known rows store) opening values kind w q
static_rows_are rows store opening kind exprs list made values w q is many all same =
    let of : ℕ → List (ℕ × ℕ) = λ v. row (static_of_unit (known rows store) (Static exprs) v) w q in
    ap fluent_rows
    (same ∙ ap (map (λ expr. row (expr_holds (told rows) expr) w q)) all
    ∙ by_place (λ expr. row (expr_holds (told rows) expr) w q) of 0 exprs
    (option_row rows store exprs w q)
    ∙ ap (λ (n : ℕ). map of (range_with_len 0 n)) many)
    ∙ ap (λ (k : UnitKind). rows_over (known rows store) opening values k w q) (sym is)
