-- What is true at a point depends on the units that are named alone.
use Rattle.std.proofs.Common.{◌≡◌, ℕ, zero, suc, ◌+◌, ◌-◌, Bool, true, false, cond, not, ◌&&◌, ◌||◌}
use Rattle.std.proofs.Common.{List, [], ◌∷◌, ◌++◌, map, filter, flat_map, slice_get, Option, refl}
use Rattle.std.proofs.Common.{sym, ◌∙◌, ap, ap₂}
use Rattle.std.specs.List.{list_all, list_any}
use Rattle.ground_types.specs.Truth.{Table, is_value, holds, happens, is_so, condition_holds}
use Rattle.ground_types.specs.Truth.{body_holds, expr_holds, some_holds, each_holds}
use Rattle.ground_types.specs.Members.{contains}
use Rattle.ground_types.specs.Inertia.{next_value, value_after}
use Rattle.ground_types.specs.Recognition.{kind_of, values_of, value_of_unit, option_holds}
use Rattle.ground_types.specs.Recognition.{static_of_unit, derived_of_unit}
use Rattle.ground_types.specs.Meaning.{units_of_trigger, units_of_what, units_of_rule}
use Rattle.ground_types.specs.Meaning.{units_of_expr, units_of_members, units_of_kind}
use Rattle.ground_types.proofs.Members.{contains_hit, contains_left, contains_right}
use Rattle.ground_types.specs.declared.program.Trigger.{Trigger}
use Rattle.ground_types.specs.declared.program.Trigger.TheVariants.{Event, Derived, Start, End}
use Rattle.ground_types.specs.declared.program.What.{What}
use Rattle.ground_types.specs.declared.program.What.TheVariants.{Happens, Holds}
use Rattle.ground_types.specs.declared.program.Cond.{Cond}
use Rattle.ground_types.specs.declared.program.Rule.{Rule}
use Rattle.ground_types.specs.declared.program.Expr.{Expr, Row, Union', Intersect', Complement'}
use Rattle.ground_types.specs.declared.program.Expr.{Row_of-Expr, end_of-Expr, more_of-Expr}
use Rattle.ground_types.specs.declared.program.UnitKind.{UnitKind}
use Rattle.ground_types.specs.declared.program.UnitKind.TheVariants as kind
use Rattle.ground_types.specs.declared.program.Program.{Program}

-- two tables say the same of a unit
pub record SameUnit (one two : Table) (unit : ℕ) : Type 0 where
  pub events : (t : ℕ) → one.derived unit t ≡ two.derived unit t
  pub simple : (t : ℕ) → one.value unit t ≡ two.value unit t
  pub statics : (v t : ℕ) → one.static unit v t ≡ two.static unit v t

-- two tables say the same of the input events and of these units
pub record AgreeOn (one two : Table) (units : List ℕ) : Type 0 where
  pub inputs : (event t : ℕ) → one.occurs event t ≡ two.occurs event t
  pub each : (unit : ℕ) → contains units unit ≡ true → SameUnit one two unit

pub agree_on_fewer : (one two : Table) (few many : List ℕ) → ((unit : ℕ) → contains few unit ≡ true
    → contains many unit ≡ true) →
    AgreeOn one two many → AgreeOn one two few
agree_on_fewer one two few many among agree = record {
  inputs = agree.inputs;
  each = λ unit is.
      agree.each unit (among unit is);
}

agree_left : (one two : Table) (xs ys : List ℕ) → AgreeOn one two (xs ++ ys) → AgreeOn one two xs
agree_left one two xs ys agree = agree_on_fewer one two xs (xs ++ ys) (contains_left xs ys) agree

agree_right : (one two : Table) (xs ys : List ℕ) → AgreeOn one two (xs ++ ys) → AgreeOn one two ys
agree_right one two xs ys agree = agree_on_fewer one two ys (xs ++ ys) (contains_right xs ys) agree

holds_same : (one two : Table) (unit v : ℕ) → AgreeOn one two (unit ∷ []) → (t : ℕ)
    → holds one unit v t ≡ holds two unit v t
holds_same one two unit v agree t =
    let same : SameUnit one two unit = agree.each unit (contains_hit unit [] unit refl) in
    ap₂ (λ (o : Option ℕ) (b : Bool). is_value o v || b) (same.simple t) (same.statics v t)

happens_same : (one two : Table) (trigger : Trigger) → AgreeOn one two (units_of_trigger trigger)
    → (t : ℕ) → happens one trigger t ≡ happens two trigger t
happens_same one two (Event event) agree t = agree.inputs event t
happens_same one two (Derived unit) agree t =
    (agree.each unit (contains_hit unit [] unit refl)).events t
happens_same one two (Start unit v) agree t =
    ap₂ (λ (a b : Bool). not a && b) (holds_same one two unit v agree t) (holds_same one two unit v
    agree (t + 1))
happens_same one two (End unit v) agree t =
    ap₂ (λ (a b : Bool). a && not b) (holds_same one two unit v agree t) (holds_same one two unit v
    agree (t + 1))

is_so_same : (one two : Table) (what : What) → AgreeOn one two (units_of_what what) → (t : ℕ)
    → is_so one what t ≡ is_so two what t
is_so_same one two (Happens trigger) agree t = happens_same one two trigger agree t
is_so_same one two (Holds unit v) agree t = holds_same one two unit v agree t

conditions_same : (one two : Table) (conds : List Cond)
    → AgreeOn one two (flat_map (λ cond. units_of_what cond.what) conds) → (t : ℕ) →
    list_all (λ cond. condition_holds one cond t) conds
    ≡ list_all (λ cond. condition_holds two cond t) conds
conditions_same one two [] agree t = refl
conditions_same one two (c ∷ rest) agree t =
    ap₂ (λ (a b : Bool). cond c.positive a (not a) && b)
    (is_so_same one two c.what (agree_left one two (units_of_what c.what)
    (flat_map (λ cond. units_of_what cond.what) rest) agree) t)
    (conditions_same one two rest (agree_right one two (units_of_what c.what)
    (flat_map (λ cond. units_of_what cond.what) rest) agree) t)

body_same : (one two : Table) (rule : Rule) → AgreeOn one two (units_of_rule rule) → (t : ℕ)
    → body_holds one rule t ≡ body_holds two rule t
body_same one two rule agree t =
    ap₂ (λ (a b : Bool). a && b)
    (happens_same one two rule.trigger
    (agree_left one two (units_of_trigger rule.trigger) (flat_map (λ cond. units_of_what cond.what)
    rule.conds) agree) t)
    (conditions_same one two rule.conds
    (agree_right one two (units_of_trigger rule.trigger)
    (flat_map (λ cond. units_of_what cond.what) rule.conds) agree) t)

mutual
  expr_same : (one two : Table) (expr : Expr) → AgreeOn one two (units_of_expr expr) → (t : ℕ)
      → expr_holds one expr t ≡ expr_holds two expr t
  expr_same one two (Row unit v) agree t = holds_same one two unit v agree t
  expr_same one two (Union' shape members) agree t = some_same one two members agree t
  expr_same one two (Intersect' shape members) agree t = each_same one two members agree t
  expr_same one two (Complement' p first shape others) agree t =
      ap₂ (λ (a b : Bool). a && not b)
      (expr_same one two first (agree_left one two (units_of_expr first) (units_of_members others)
      agree) t)
      (some_same one two others (agree_right one two (units_of_expr first)
      (units_of_members others) agree) t)

  some_same : (one two : Table) {m : _} (members : Row_of-Expr m)
      → AgreeOn one two (units_of_members members) → (t : ℕ) →
      some_holds one members t ≡ some_holds two members t
  some_same one two end_of-Expr agree t = refl
  some_same one two (more_of-Expr member rest) agree t =
      ap₂ (λ (a b : Bool). a || b)
      (expr_same one two member (agree_left one two (units_of_expr member) (units_of_members rest)
      agree) t)
      (some_same one two rest (agree_right one two (units_of_expr member) (units_of_members rest)
      agree) t)

  each_same : (one two : Table) {m : _} (members : Row_of-Expr m)
      → AgreeOn one two (units_of_members members) → (t : ℕ) →
      each_holds one members t ≡ each_holds two members t
  each_same one two end_of-Expr agree t = refl
  each_same one two (more_of-Expr member rest) agree t =
      ap₂ (λ (a b : Bool). a && b)
      (expr_same one two member (agree_left one two (units_of_expr member) (units_of_members rest)
      agree) t)
      (each_same one two rest (agree_right one two (units_of_expr member) (units_of_members rest)
      agree) t)

some_body_same : (one two : Table) (rules : List Rule)
    → AgreeOn one two (flat_map units_of_rule rules) → (t : ℕ) →
    list_any (λ rule. body_holds one rule t) rules ≡ list_any (λ rule. body_holds two rule t) rules
some_body_same one two [] agree t = refl
some_body_same one two (rule ∷ rest) agree t =
    ap₂ (λ (a b : Bool). a || b)
    (body_same one two rule (agree_left one two (units_of_rule rule) (flat_map units_of_rule rest)
    agree) t)
    (some_body_same one two rest (agree_right one two (units_of_rule rule)
    (flat_map units_of_rule rest) agree) t)

values_more : (a b : Bool) (xs ys : List Rule) → a ≡ b → map (λ rule. rule.value) xs
    ≡ map (λ rule. rule.value) ys → (rule : Rule) →
    map (λ rule. rule.value) (cond a (rule ∷ xs) xs) ≡ map (λ rule. rule.value)
    (cond b (rule ∷ ys) ys)
values_more true true xs ys is rest rule = ap (λ (values : List ℕ). rule.value ∷ values) rest
values_more true false xs ys is rest rule = cc
values_more false true xs ys is rest rule = cc
values_more false false xs ys is rest rule = rest

values_same : (one two : Table) (rules : List Rule)
    → AgreeOn one two (flat_map units_of_rule rules) → (t : ℕ) →
    values_of one rules t ≡ values_of two rules t
values_same one two [] agree t = refl
values_same one two (rule ∷ rest) agree t =
    values_more (body_holds one rule t) (body_holds two rule t)
    (filter (λ rule. body_holds one rule t) rest) (filter (λ rule. body_holds two rule t) rest)
    (body_same one two rule (agree_left one two (units_of_rule rule) (flat_map units_of_rule rest)
    agree) t)
    (values_same one two rest (agree_right one two (units_of_rule rule)
    (flat_map units_of_rule rest) agree) t) rule

-- the values over time depend on what is initiated and terminated at each point alone
pub value_after_same : (opening : Option ℕ) (in_one in_two out_one out_two : ℕ → List ℕ) (w n : ℕ)
    → ((t : ℕ) → in_one t ≡ in_two t) →
    ((t : ℕ) → out_one t ≡ out_two t) → value_after opening in_one out_one w n
    ≡ value_after opening in_two out_two w n
value_after_same opening in_one in_two out_one out_two w zero ins outs = refl
value_after_same opening in_one in_two out_one out_two w (suc n) ins outs =
    let before : value_after opening in_one out_one w n ≡ value_after opening in_two out_two w n =
    value_after_same opening in_one in_two out_one out_two w n ins outs in
    ap₂ (λ (o : Option ℕ) (i : List ℕ). next_value o i (out_one (w + suc n))) before
    (ins (w + suc n))
    ∙ ap (λ (e : List ℕ). next_value (value_after opening in_two out_two w n) (in_two (w + suc n))
    e) (outs (w + suc n))

pub derived_same : (one two : Table) (unit : UnitKind) → AgreeOn one two (units_of_kind unit)
    → (t : ℕ) → derived_of_unit one unit t ≡ derived_of_unit two unit t
derived_same one two (kind.Simple initially initiate terminate) agree t = refl
derived_same one two (kind.Static exprs) agree t = refl
derived_same one two (kind.Derived rules) agree t = some_body_same one two rules agree t

pub value_same : (one two : Table) (w : ℕ) (opening : Option ℕ) (unit : UnitKind)
    → AgreeOn one two (units_of_kind unit) → (t : ℕ) →
    value_of_unit one opening unit w t ≡ value_of_unit two opening unit w t
value_same one two w opening (kind.Simple initially initiate terminate) agree t =
    value_after_same opening (values_of one initiate) (values_of two initiate)
    (values_of one terminate) (values_of two terminate) w (t - (w + 1))
    (values_same one two initiate (agree_left one two (flat_map units_of_rule initiate)
    (flat_map units_of_rule terminate) agree))
    (values_same one two terminate (agree_right one two (flat_map units_of_rule initiate)
    (flat_map units_of_rule terminate) agree))
value_same one two w opening (kind.Static exprs) agree t = refl
value_same one two w opening (kind.Derived rules) agree t = refl

option_same : (one two : Table) (exprs : List Expr) (v : ℕ)
    → AgreeOn one two (flat_map units_of_expr exprs) → (t : ℕ) →
    option_holds one (slice_get exprs v) t ≡ option_holds two (slice_get exprs v) t
option_same one two [] v agree t = refl
option_same one two (expr ∷ rest) zero agree t =
    expr_same one two expr (agree_left one two (units_of_expr expr) (flat_map units_of_expr rest)
    agree) t
option_same one two (expr ∷ rest) (suc v) agree t =
    option_same one two rest v (agree_right one two (units_of_expr expr)
    (flat_map units_of_expr rest) agree) t

pub static_same : (one two : Table) (unit : UnitKind) → AgreeOn one two (units_of_kind unit)
    → (v t : ℕ) →
    static_of_unit one unit v t ≡ static_of_unit two unit v t
static_same one two (kind.Simple initially initiate terminate) agree v t = refl
static_same one two (kind.Static exprs) agree v t = option_same one two exprs v agree t
static_same one two (kind.Derived rules) agree v t = refl

-- what a table says of a unit is what the definitions make of it over another
pub record IsDefined (program : Program) (opening : ℕ → Option ℕ) (w : ℕ) (over table : Table)
    (unit : ℕ) : Type 0 where
  pub events : (t : ℕ) → table.derived unit t ≡ derived_of_unit over (kind_of program unit) t
  pub simple : (t : ℕ) → table.value unit t ≡ value_of_unit over (opening unit)
      (kind_of program unit) w t
  pub statics : (v t : ℕ) → table.static unit v t ≡ static_of_unit over (kind_of program unit) v t

-- what is defined over one table is so over another that agrees on the units that are named
pub defined_alike : (program : Program) (opening : ℕ → Option ℕ) (w : ℕ) (one two table : Table)
    (unit : ℕ) →
    AgreeOn one two (units_of_kind (kind_of program unit)) → IsDefined program opening w one table
    unit → IsDefined program opening w two table unit
defined_alike program opening w one two table unit agree is = record {
  events = λ t. is.events t ∙ derived_same one two (kind_of program unit) agree t;
  simple = λ t. is.simple t ∙ value_same one two w (opening unit) (kind_of program unit) agree t;
  statics = λ v t. is.statics v t ∙ static_same one two (kind_of program unit) agree v t;
}

-- two tables in which a unit is defined over the same table say the same of it
pub same_by_definition : (program : Program) (opening : ℕ → Option ℕ) (w : ℕ)
    (over one two : Table) (unit : ℕ) →
    IsDefined program opening w over one unit → IsDefined program opening w over two unit
    → SameUnit one two unit
same_by_definition program opening w over one two unit left right = record {
  events = λ t. left.events t ∙ sym (right.events t);
  simple = λ t. left.simple t ∙ sym (right.simple t);
  statics = λ v t. left.statics v t ∙ sym (right.statics v t);
}
