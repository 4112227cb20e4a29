-- The rows of a unit follow from the points of its rules.
use Rattle.std.proofs.Common.{◌≡◌, inl, ℕ, zero, suc, ◌+◌, ◌<◌, ◌≤◌, Bool, true, ◌&&◌, ◌||◌}
use Rattle.std.proofs.Common.{ltb, leb, List, [], ◌∷◌, ◌++◌, map, length, Option, refl}
use Rattle.std.proofs.Common.{sym, ◌∙◌, ap, ap₂, arith, subst}
use Rattle.std.specs.List.{list_any, list_all, range_with_len, AllByRecursion}
use Rattle.std.proofs.Math.Bool.{and-false, and-or_distrib_left}
use Rattle.std.proofs.lemmas.Bool.{and_parts}
use Rattle.ground_types.specs.Truth.{Table, body_holds, is_value}
use Rattle.ground_types.specs.Members.{contains}
use Rattle.ground_types.specs.Inertia.{values_with, has_value}
use Rattle.ground_types.specs.Recognition.{values_of, value_of_unit}
use Rattle.ground_types.specs.Rows.{row, points}
use Rattle.ground_types.specs.Publication.{fluent_rows, event_row}
use Rattle.ground_types.specs.Sound.{initial_fits, kind_fits, rule_fits, trigger_fits, what_fits}
use Rattle.ground_types.specs.Touched.{rules_of}
use Rattle.ground_types.proofs.Points.{points_are}
use Rattle.ground_types.specs.declared.program.Program.{Program}
use Rattle.ground_types.specs.declared.program.Rule.{Rule}
use Rattle.ground_types.specs.declared.program.UnitKind.{UnitKind}
use Rattle.ground_types.specs.declared.program.UnitKind.TheVariants as unit_kind
use Rattle.span_algebra.specs.Normal.{IsRising}
use Rattle.simple_fluent.specs.Rows.{rows_of, IsValueBelow}
use Rattle.derived_event.proofs.Rising.{points_of_window}
use Rattle.delay_revise.specs.Working.{rows_over, IsSimple}
use Rattle.delay_revise.proofs.Alike.{row_alike, value_alike}

-- ---- what is known of a unit

values_below : (program : Program) (values : ℕ) (rules : List Rule)
    → list_all (rule_fits program values) rules ≡ true →
    list_all (λ rule. ltb rule.value values) rules ≡ true
values_below program values [] is = refl
values_below program values (rule ∷ rest) is =
    let here : rule_fits program values rule ≡ true =
    (and_parts (rule_fits program values rule) (list_all (rule_fits program values) rest) is).0
    in
    ap₂ (λ (a b : Bool). a && b)
    (and_parts (ltb rule.value values) (trigger_fits program rule.trigger)
    (and_parts (ltb rule.value values && trigger_fits program rule.trigger)
    (list_all (λ cond. what_fits program cond.what) rule.conds) here).0).0
    (values_below program values rest (and_parts (rule_fits program values rule)
    (list_all (rule_fits program values) rest) is).1)

-- what holds of each item of two lists together holds of each of either
pub each_left : {X : Type 0} (P : X → Type 0) (xs ys : List X) → AllByRecursion P (xs ++ ys)
    → AllByRecursion P xs
each_left P [] ys all = tt
each_left P (x ∷ xs) ys all = (all.0, each_left P xs ys all.1)

pub each_right : {X : Type 0} (P : X → Type 0) (xs ys : List X) → AllByRecursion P (xs ++ ys)
    → AllByRecursion P ys
each_right P [] ys all = all
each_right P (x ∷ xs) ys all = each_right P xs ys all.1

simple_by : (program : Program) (P : Rule → Type 0) (values : ℕ) (opening initially : Option ℕ)
    (initiate terminate : List Rule) → IsValueBelow values opening →
    kind_fits program values (unit_kind.Simple initially initiate terminate) ≡ true
    → AllByRecursion P (initiate ++ terminate) →
    IsSimple P values opening initiate terminate
simple_by program P values opening initially initiate terminate opens fits all =
    let some : (initial_fits values initially && list_all (rule_fits program values) initiate)
    ≡ true =
    (and_parts (initial_fits values initially && list_all (rule_fits program values) initiate)
    (list_all (rule_fits program values) terminate) fits).0 in
    record {
      opens = opens;
      inits = values_below program values initiate (and_parts (initial_fits values initially)
          (list_all (rule_fits program values) initiate) some).1;
      terms = values_below program values terminate
          (and_parts (initial_fits values initially && list_all (rule_fits program values)
          initiate) (list_all (rule_fits program values) terminate) fits).1;
      each_init = each_left P initiate terminate all;
      each_term = each_right P initiate terminate all;
    }

pub simple_of : (program : Program) (P : Rule → Type 0) (values count : ℕ) (kind : UnitKind)
    (opening initially : Option ℕ) (initiate terminate : List Rule) → IsValueBelow values opening →
    kind_fits program values kind ≡ true → AllByRecursion P (rules_of kind)
    → kind ≡ unit_kind.Simple initially initiate terminate → count ≡ values →
    IsSimple P count opening initiate terminate
simple_of program P values count kind opening initially initiate terminate opens fits all is many =
    subst (λ (n : ℕ). IsSimple P n opening initiate terminate) (sym many)
    (simple_by program P values opening initially initiate terminate opens
    (ap (kind_fits program values) (sym is) ∙ fits)
    (subst (λ (k : UnitKind). AllByRecursion P (rules_of k)) is all))

-- ---- the rows of a simple fluent

each_row : (f g : ℕ → List (ℕ × ℕ)) (a count : ℕ) → ((v : ℕ) → f v ≡ g v)
    → map f (range_with_len a count) ≡ map g (range_with_len a count)
each_row f g a zero same = refl
each_row f g a (suc n) same = ap₂ (λ (x : List (ℕ × ℕ)) (xs : List (List (ℕ × ℕ))). x ∷ xs)
    (same a) (each_row f g (a + 1) n same)

pub simple_rows : (table : Table) (initially : Option ℕ) (initiate terminate : List Rule)
    (inits terms : List (List ℕ)) (count w q : ℕ) → length inits ≡ count →
    ((v t : ℕ) → w < t → t ≤ q → contains (values_with 0 inits t) v
    ≡ contains (values_of table initiate t) v) →
    ((v t : ℕ) → w < t → t ≤ q → contains (values_with 0 terms t) v
    ≡ contains (values_of table terminate t) v) →
    fluent_rows (rows_of initially inits terms w q) ≡ rows_over table initially count
    (unit_kind.Simple initially initiate terminate) w q
simple_rows table initially initiate terminate inits terms count w q many ins outs =
    ap fluent_rows
    (each_row (λ v. row (has_value initially inits terms w v) w q)
    (λ v. row (λ t. is_value (value_of_unit table initially (unit_kind.Simple initially initiate
    terminate) w t) v) w q) 0 (length inits)
    (λ v. row_alike (has_value initially inits terms w v)
    (λ t. is_value (value_of_unit table initially (unit_kind.Simple initially initiate terminate) w
    t) v) w q
    (λ t low high. ap (λ (o : Option ℕ). is_value o v)
    (value_alike initially (values_with 0 inits) (values_of table initiate) (values_with 0 terms)
    (values_of table terminate) w q t low high ins outs)))
    ∙ ap (λ (n : ℕ). map (λ v. row (λ t.
    is_value (value_of_unit table initially (unit_kind.Simple initially initiate terminate) w t)
    v) w q) (range_with_len 0 n)) many)

pub fluent_rows_are : (table : Table) (kind : UnitKind) (opening initially : Option ℕ)
    (initiate terminate : List Rule) (values count w q : ℕ) →
    kind ≡ unit_kind.Simple initially initiate terminate → count ≡ values →
    rows_over table opening count (unit_kind.Simple opening initiate terminate) w q
    ≡ rows_over table opening values kind w q
fluent_rows_are table kind opening initially initiate terminate values count w q is many =
    ap (λ (n : ℕ). rows_over table opening n (unit_kind.Simple initially initiate terminate) w q)
    many
    ∙ ap (λ (k : UnitKind). rows_over table opening values k w q) (sym is)

-- ---- the points of a derived event

some_points : (table : Table) (rules : List Rule) (w q t : ℕ) → w ≤ q →
    list_any (λ rule. contains (points (body_holds table rule) w q) t) rules
    ≡ (ltb w t && leb t q && list_any (λ rule. body_holds table rule t) rules)
some_points table [] w q t le = sym (and-false (ltb w t && leb t q))
some_points table (rule ∷ rest) w q t le =
    ap₂ (λ (a b : Bool). a || b) ((points_are (body_holds table rule) w q le).each t)
    (some_points table rest w q t le)
    ∙ sym (and-or_distrib_left (ltb w t && leb t q) (body_holds table rule t)
    (list_any (λ rule. body_holds table rule t) rest))

pub event_row_is : (table : Table) (opening : Option ℕ) (kind : UnitKind)
    (rules given : List Rule) (found : List ℕ) (values w q : ℕ) → w < q →
    kind ≡ unit_kind.Derived rules → given ≡ rules → IsRising found →
    ((t : ℕ) → contains found t ≡ list_any (λ rule. contains (points (body_holds table rule) w q)
    t) given) →
    event_row found ≡ rows_over table opening values kind w q
event_row_is table opening kind rules given found values w q lt is same rising each =
    let le : w ≤ q = omega arith in
    ap event_row
    (points_of_window (λ t. list_any (λ rule. body_holds table rule t) rules) w q found (inl le)
    rising
    (λ t. each t ∙ ap (list_any (λ rule. contains (points (body_holds table rule) w q) t)) same
    ∙ some_points table rules w q t le))
    ∙ ap (λ (k : UnitKind). rows_over table opening values k w q) (sym is)
