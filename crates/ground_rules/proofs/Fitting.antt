-- The rules and expressions of a grounded program fit.
use Rattle.std.proofs.Common.{◌≡◌, ℕ, zero, suc, ◌+◌, ◌<◌, nat_lt, Bool, true, false, not, cond}
use Rattle.std.proofs.Common.{◌&&◌, ◌==◌, List, [], ◌∷◌, ◌++◌, map, flat_map, filter, filter_map}
use Rattle.std.proofs.Common.{find, length, slice_get, option_map, Option, Some, None, refl, sym}
use Rattle.std.proofs.Common.{ap, subst, ◌∙◌, arith}
use Rattle.std.proofs.lemmas.Bool.{and_from, eqb-true, eq-eqb, lt-ltb}
use Rattle.std.specs.List.{list_all, range_with_len}
use Rattle.std.proofs.lemmas.List.{length-map}
use Rattle.std.proofs.lemmas.List.FromFn.{length-range_with_len}
use Rattle.std.proofs.lemmas.Option.{slice_get-map, none-some, same_Some}
use Rattle.ground_types.specs.Members.{contains}
use Rattle.ground_types.specs.Publication.{value_count}
use Rattle.ground_types.specs.Sound.{unit_values, trigger_fits, what_fits, rule_fits, expr_fits}
use Rattle.ground_types.specs.Sound.{is_union, initial_fits, kind_fits}
use Rattle.ground_types.specs.declared.program.Domain.{Domain}
use Rattle.ground_types.specs.declared.program.Name.{Name}
use Rattle.ground_types.specs.declared.program.NameKind.{NameKind}
use Rattle.ground_types.specs.declared.program.NameKind.TheVariants as name_kind
use Rattle.ground_types.specs.declared.program.Cond.{Cond}
use Rattle.ground_types.specs.declared.program.Rule.{Rule}
use Rattle.ground_types.specs.declared.program.Expr.{Expr}
use Rattle.ground_types.specs.declared.program.Unit.{Unit}
use Rattle.ground_types.specs.declared.program.UnitKind.{UnitKind}
use Rattle.ground_types.specs.declared.program.UnitKind.TheVariants as unit_kind
use Rattle.ground_types.specs.declared.program.Program.{Program}
use Rattle.rule_forms.specs.declared.form.Fv.{Fv}
use Rattle.rule_forms.specs.declared.form.Body.{Body}
use Rattle.rule_forms.specs.declared.form.Body.TheVariants as body
use Rattle.rule_forms.specs.Forms.{Expression, Expressions, Value_of, Union_of, Intersect_of}
use Rattle.rule_forms.specs.Forms.{Complement_of, none, more, PlainForm, Initiated, Terminated}
use Rattle.rule_forms.specs.Forms.{Happens, HoldsFor}
use Rattle.rule_forms.specs.Sound.{AllOf, IsSoundForm, IsSoundExpression, AreSoundMembers}
use Rattle.rule_forms.specs.Sound.{AreSoundOthers}
use Rattle.decl_known.proofs.Anys.{three}
use Rattle.decl_known.specs.Mentions.{SimpleFluent, fluent_value, body_mentions, leaves}
use Rattle.decl_known.specs.Mentions.{leaves_of_all, mentions}
use Rattle.ground_names.specs.Numbers.{numbered}
use Rattle.ground_rules.specs.Assignments.{Instance}
use Rattle.ground_rules.specs.Atoms.{GroundExpression, plain_expr, ground_atom, ground_value}
use Rattle.ground_rules.specs.Atoms.{ground_event, ground_condition, head_unit, head_value}
use Rattle.ground_rules.specs.Atoms.{ground_rule, ground_expression, ground_expressions}
use Rattle.ground_rules.specs.Grounded.{PlainKind, Simple_is, Static_is, Derived_is, plain_kind}
use Rattle.ground_rules.specs.Grounded.{plain_unit, opening_by, initiation_by, termination_by}
use Rattle.ground_rules.specs.Grounded.{occurrence_by, expression_by, opening_of, union_for}
use Rattle.ground_rules.specs.Grounded.{kind_by, instances_at, units_of, event_count}
use Rattle.decl_known.proofs.ComputedKinds.{simple_computed}
use Rattle.ground_rules.proofs.Members.{all_weaker, all_front, all_back, all_map, all_filter}
use Rattle.ground_rules.proofs.Members.{all_passing, all_filter_map, each_of_flat_map, all_places}
use Rattle.ground_rules.proofs.Members.{list_all_from}
use Rattle.ground_rules.proofs.Places.{range_below}
use Rattle.ground_rules.proofs.Mentioned.{Grounds, IsGround}
use Rattle.ground_rules.proofs.UnitsAt.{unit_found}
use Rattle.ground_rules.proofs.GroundExpressions.{count_of, ground_fits, all_fit, is_union_of}
use Rattle.ground_rules.proofs.GroundExpressions.{expr_same, union_same, some_count, all_of_fit}
use Rattle.ground_rules.proofs.NamedUnits.{named_unit, value_below, fluent_fits, event_fits}
use Rattle.ground_rules.proofs.NamedUnits.{condition_fits}

-- ---- parts of plain units

abbrev initial_in : PlainKind → Option ℕ
initial_in (Simple_is initially initiate terminate) = initially
initial_in kind = None

abbrev initiate_in : PlainKind → List Rule
initiate_in (Simple_is initially initiate terminate) = initiate
initiate_in kind = []

abbrev terminate_in : PlainKind → List Rule
terminate_in (Simple_is initially initiate terminate) = terminate
terminate_in kind = []

abbrev exprs_in : PlainKind → List GroundExpression
exprs_in (Static_is exprs) = exprs
exprs_in kind = []

abbrev rules_in : PlainKind → List Rule
rules_in (Derived_is rules) = rules
rules_in kind = []

each_of_map : {A B : Type 0} (P : B → Type 0) (f : A → B) (xs : List A) → AllOf P (map f xs)
    → AllOf (λ x. P (f x)) xs
each_of_map P f [] all = tt
each_of_map P f (x ∷ xs) all = (all.0, each_of_map P f xs all.1)

found_member : {A : Type 0} (P : A → Type 0) (p : A → Bool) (xs : List A) (x : A) → AllOf P xs
    → find p xs ≡ Some x → P x
found_member P p [] x all e = absurd (none-some x e)
found_member P p (y ∷ ys) x all e = by (p y) e (found_member P p ys x all.1)
  where
    by : (b : Bool) → cond b (Some y) (find p ys) ≡ Some x → (find p ys ≡ Some x → P x) → P x
    by true f rest = subst P (same_Some y x f) all.0
    by false f rest = rest f

-- the first value is one of so many
opening_fits : (values : ℕ) (mine : List Instance) (o : Option ℕ) → opening_of values mine ≡ o
    → initial_fits values o ≡ true
opening_fits values mine None e = refl
opening_fits values mine (Some v) e =
    let lt : v < 0 + values = found_member (λ n. n < 0 + values)
    (contains (filter_map (λ i. opening_by i i.clause.form) mine)) (range_with_len 0 values) v
    (range_below 0 values) e in
    lt-ltb v values (omega (arith, lt))

module _ (program : Program) (domains : List Domain) (declared : List Name) (all : List Instance)
    (units : map plain_unit program.units ≡ units_of domains (numbered domains 0 0 declared) all)
    (named : program.names ≡ numbered domains 0 0 declared)
    (events : program.events ≡ event_count domains declared) where
  abbrev names : List Name
  names = numbered domains 0 0 declared

  module _ (i : Instance) (names_are : i.clause.names ≡ names) where
    -- ---- rules

    conditions_fit : (conditions : List Body) → AllOf (Grounds domains names i)
        (flat_map body_mentions conditions) → AllOf (λ cond. what_fits program cond.what ≡ true)
        (filter_map (ground_condition i) conditions)
    conditions_fit conditions ground =
        all_filter_map (λ cond. what_fits program cond.what ≡ true) (ground_condition i) conditions
        (all_weaker (λ condition. AllOf (Grounds domains names i) (body_mentions condition))
        (λ condition. (cond : Cond) → ground_condition i condition ≡ Some cond
        → what_fits program cond.what ≡ true)
        (λ condition ms. condition_fits program domains declared all units named events i names_are
        condition ms) conditions
        (each_of_flat_map (Grounds domains names i) body_mentions conditions ground))

    rule_is_fit : (values value : ℕ) (bodies : List Body) → nat_lt value values ≡ true
        → AllOf (Grounds domains names i) (flat_map body_mentions bodies) → (rule : Rule)
        → ground_rule i value bodies ≡ Some rule
        → rule_fits program values rule ≡ true
    rule_is_fit values value [] lt ground rule e = absurd (none-some rule e)
    rule_is_fit values value (body.Happens true text ∷ others) lt ground rule e =
        let made : Rule = record {
          value = value;
          trigger = ground_event i text;
          conds = filter_map (ground_condition i) others;
        } in
        subst (λ r. rule_fits program values r ≡ true) (same_Some made rule e)
        (three (nat_lt value values) (trigger_fits program (ground_event i text))
        (list_all (λ cond. what_fits program cond.what) (filter_map (ground_condition i) others))
        lt
        (event_fits program domains declared all units named events i names_are text ground.0)
        (list_all_from (λ cond. what_fits program cond.what) (filter_map (ground_condition i)
        others) (conditions_fit others ground.1)))
    rule_is_fit values value (body.Happens false text ∷ others) lt ground rule e =
        absurd (none-some rule e)
    rule_is_fit values value (body.Holds positive fv ∷ others) lt ground rule e =
        absurd (none-some rule e)
    rule_is_fit values value (body.Unequal x y ∷ others) lt ground rule e =
        absurd (none-some rule e)

    -- ---- expressions

    some_members : (depth : ℕ) (es : Expressions) → AreSoundMembers depth es
        → (not (count_of (ground_expressions i es) == 0) ≡ true) × AreSoundOthers depth es
    some_members depth none sound = absurd sound
    some_members depth (more e es) sound = (some_count (count_of (ground_expressions i es)), sound)

    mutual
      expression_fits : (depth : ℕ) (e : Expression) → IsSoundExpression depth e
          → AllOf (Grounds domains names i) (leaves e) → ground_fits program (ground_expression i e)
          ≡ true
      expression_fits depth (Value_of fv) sound ground = fluent_fits program domains declared all
          units named events i names_are fv ground.0
      expression_fits zero (Union_of es) sound ground = absurd sound
      expression_fits zero (Intersect_of es) sound ground = absurd sound
      expression_fits zero (Complement_of e es) sound ground = absurd sound
      expression_fits (suc depth) (Union_of es) sound ground =
          others_fit depth es (some_members depth es sound).1 ground
      expression_fits (suc depth) (Intersect_of es) sound ground =
          and_from (not (count_of (ground_expressions i es) == 0))
          (all_fit program (ground_expressions i es)) (some_members depth es sound).0
          (others_fit depth es (some_members depth es sound).1 ground)
      expression_fits (suc depth) (Complement_of e es) sound ground =
          and_from (ground_fits program (ground_expression i e))
          (all_fit program (ground_expressions i es))
          (expression_fits depth e sound.0 (all_front (Grounds domains names i) (leaves e)
          (leaves_of_all es) ground))
          (others_fit depth es (some_members depth es sound.1).1
          (all_back (Grounds domains names i) (leaves e) (leaves_of_all es) ground))

      others_fit : (depth : ℕ) (es : Expressions) → AreSoundOthers depth es
          → AllOf (Grounds domains names i) (leaves_of_all es)
          → all_fit program (ground_expressions i es) ≡ true
      others_fit depth none sound ground = refl
      others_fit depth (more e es) sound ground =
          and_from (ground_fits program (ground_expression i e))
          (all_fit program (ground_expressions i es))
          (expression_fits depth e sound.0 (all_front (Grounds domains names i) (leaves e)
          (leaves_of_all es) ground))
          (others_fit depth es sound.1 (all_back (Grounds domains names i) (leaves e)
          (leaves_of_all es) ground))

  -- ---- the instances with a unit as head

  module _ (k : ℕ) (unit : Unit) (here : slice_get program.units k ≡ Some unit) where
    -- the value in the head is one of the unit's
    head_value_below : (i : Instance) → i.clause.names ≡ names → (fv : Fv)
        → Grounds domains names i (fluent_value SimpleFluent fv) → ground_atom i fv.atom ≡ k
        → nat_lt (ground_value i fv) (unit_values program unit) ≡ true
    head_value_below i names_are fv g head =
        let u = named_unit program domains declared all units named events i
        (fluent_value SimpleFluent fv) g (simple_computed g.name.kind g.kind) in
        let same : u.unit ≡ unit = same_Some u.unit unit (sym u.at ∙ ap (slice_get program.units)
        head ∙ here) in
        let values : length g.name.values ≡ unit_values program unit = sym u.values
        ∙ ap (unit_values program) same in
        lt-ltb (ground_value i fv) (unit_values program unit)
        (subst (λ n. ground_value i fv < n) values (value_below program domains declared all units
        named events i names_are fv SimpleFluent g))

    module _ (d : List Domain) (n : List Name) (a : List ℕ) (names_are : n ≡ names) where
      abbrev made : PlainForm → Instance
      made form = record { clause = record { domains = d; names = n; form = form }; assignment = a }

      behind_head : (i : Instance) (bodies : List Body) → AllOf (Grounds domains names i)
          (flat_map body_mentions bodies ++ []) → AllOf (Grounds domains names i)
          (flat_map body_mentions bodies)
      behind_head i bodies ground = all_front (Grounds domains names i)
          (flat_map body_mentions bodies) [] ground

      rule_made : (i : Instance) → i.clause.names ≡ names → (fv : Fv) (bodies : List Body)
          → AllOf (Grounds domains names i)
          (fluent_value SimpleFluent fv ∷ flat_map body_mentions bodies ++ [])
          → ground_atom i fv.atom ≡ k → (rule : Rule)
          → ground_rule i (ground_value i fv) bodies ≡ Some rule
          → rule_fits program (unit_values program unit) rule ≡ true
      rule_made i these fv bodies ground head rule e =
          rule_is_fit i these (unit_values program unit) (ground_value i fv) bodies
          (head_value_below i these fv ground.0 head) (behind_head i bodies ground.1) rule e

      initiation_made : (form : PlainForm) → AllOf (Grounds domains names (made form))
          (mentions form) → head_unit (made form) ≡ k → (rule : Rule)
          → initiation_by (made form) form ≡ Some rule
          → rule_fits program (unit_values program unit) rule ≡ true
      initiation_made (Initiated fv bodies) ground head rule e =
          rule_made (made (Initiated fv bodies)) names_are fv bodies ground head rule e
      initiation_made form ground head rule e = absurd (none-some rule e)

      termination_made : (form : PlainForm) → AllOf (Grounds domains names (made form))
          (mentions form) → head_unit (made form) ≡ k → (rule : Rule)
          → termination_by (made form) form ≡ Some rule
          → rule_fits program (unit_values program unit) rule ≡ true
      termination_made (Terminated fv bodies) ground head rule e =
          rule_made (made (Terminated fv bodies)) names_are fv bodies ground head rule e
      termination_made form ground head rule e = absurd (none-some rule e)

      occurrence_made : (form : PlainForm) → AllOf (Grounds domains names (made form))
          (mentions form) → (rule : Rule) → occurrence_by (made form) form ≡ Some rule
          → rule_fits program 1 rule ≡ true
      occurrence_made (Happens atom bodies) ground rule e =
          rule_is_fit (made (Happens atom bodies)) names_are 1 0 bodies refl
          (behind_head (made (Happens atom bodies)) bodies ground.1) rule e
      occurrence_made form ground rule e = absurd (none-some rule e)

      expression_made : (form : PlainForm) → IsSoundForm form
          → AllOf (Grounds domains names (made form)) (mentions form) → (x : GroundExpression)
          → expression_by (made form) form ≡ Some x → ground_fits program x ≡ true
      expression_made (HoldsFor fv e) sound ground x f =
          ap (ground_fits program) (sym (same_Some (ground_expression (made (HoldsFor fv e)) e) x
          f)) ∙ expression_fits (made (HoldsFor fv e)) names_are 8 e sound.1 ground.1
      expression_made form sound ground x f = absurd (none-some x f)

    are_heads : AllOf (IsGround domains names) all → AllOf (λ i. IsGround domains names i
        × ((head_unit i == k) ≡ true)) (instances_at k all)
    are_heads ground = all_passing (IsGround domains names) (λ i. head_unit i == k) all ground

    rules_fit : (by : Instance → PlainForm → Option Rule) (values : ℕ)
        → ((i : Instance) → IsGround domains names i → head_unit i ≡ k → (rule : Rule)
        → by i i.clause.form ≡ Some rule → rule_fits program values rule ≡ true)
        → AllOf (IsGround domains names) all
        → AllOf (λ rule. rule_fits program values rule ≡ true)
        (filter_map (λ i. by i i.clause.form) (instances_at k all))
    rules_fit by values each ground =
        all_filter_map (λ rule. rule_fits program values rule ≡ true)
        (λ i. by i i.clause.form) (instances_at k all)
        (all_weaker (λ i. IsGround domains names i × ((head_unit i == k) ≡ true))
        (λ i. (rule : Rule) → by i i.clause.form ≡ Some rule
        → rule_fits program values rule ≡ true)
        (λ i h. each i h.0 (eqb-true (head_unit i) k h.1)) (instances_at k all)
        (are_heads ground))

    initiations_fit : AllOf (IsGround domains names) all
        → AllOf (λ rule. rule_fits program (unit_values program unit) rule ≡ true)
        (filter_map (λ i. initiation_by i i.clause.form) (instances_at k all))
    initiations_fit = rules_fit initiation_by (unit_values program unit) (λ i ground.
        initiation_made i.clause.domains i.clause.names i.assignment ground.names_are
        i.clause.form ground.mentioned)

    terminations_fit : AllOf (IsGround domains names) all
        → AllOf (λ rule. rule_fits program (unit_values program unit) rule ≡ true)
        (filter_map (λ i. termination_by i i.clause.form) (instances_at k all))
    terminations_fit = rules_fit termination_by (unit_values program unit) (λ i ground.
        termination_made i.clause.domains i.clause.names i.assignment ground.names_are
        i.clause.form ground.mentioned)

    occurrences_fit : AllOf (IsGround domains names) all
        → AllOf (λ rule. rule_fits program 1 rule ≡ true)
        (filter_map (λ i. occurrence_by i i.clause.form) (instances_at k all))
    occurrences_fit = rules_fit occurrence_by 1 (λ i ground head.
        occurrence_made i.clause.domains i.clause.names i.assignment ground.names_are
        i.clause.form ground.mentioned)

    union_fits : AllOf (IsGround domains names) all → (v : ℕ)
        → ground_fits program (union_for (instances_at k all) v) ≡ true
    union_fits ground v =
        all_of_fit program (filter_map (λ i. expression_by i i.clause.form)
        (filter (λ i. head_value i == v) (instances_at k all)))
        (all_filter_map (λ e. ground_fits program e ≡ true) (λ i. expression_by i i.clause.form)
        (filter (λ i. head_value i == v) (instances_at k all))
        (all_weaker (λ i. IsGround domains names i × ((head_unit i == k) ≡ true))
        (λ i. (x : GroundExpression) → expression_by i i.clause.form ≡ Some x
        → ground_fits program x ≡ true)
        (λ i h. expression_made i.clause.domains i.clause.names i.assignment h.0.names_are
        i.clause.form h.0.form h.0.mentioned)
        (filter (λ i. head_value i == v) (instances_at k all))
        (all_filter (λ i. IsGround domains names i × ((head_unit i == k) ≡ true))
        (λ i. head_value i == v) (instances_at k all) (are_heads ground))))

    simple_fits : AllOf (IsGround domains names) all
        → (initially : Option ℕ) (initiate terminate : List Rule) (values : ℕ)
        → values ≡ unit_values program unit
        → Simple_is initially initiate terminate ≡ kind_by name_kind.Simple values
        (instances_at k all) → kind_fits program (unit_values program unit)
        (unit_kind.Simple initially initiate terminate) ≡ true
    simple_fits ground initially initiate terminate values count e =
        three (initial_fits (unit_values program unit) initially)
        (list_all (rule_fits program (unit_values program unit)) initiate)
        (list_all (rule_fits program (unit_values program unit)) terminate)
        (subst (λ n. initial_fits n initially ≡ true) count
        (opening_fits values (instances_at k all) initially (sym (ap initial_in e))))
        (list_all_from (rule_fits program (unit_values program unit)) initiate
        (subst (AllOf (λ rule. rule_fits program (unit_values program unit) rule ≡ true))
        (sym (ap initiate_in e)) (initiations_fit ground)))
        (list_all_from (rule_fits program (unit_values program unit)) terminate
        (subst (AllOf (λ rule. rule_fits program (unit_values program unit) rule ≡ true))
        (sym (ap terminate_in e)) (terminations_fit ground)))

    static_fits : AllOf (IsGround domains names) all → (exprs : List Expr) (values : ℕ)
        → values ≡ unit_values program unit
        → map plain_expr exprs ≡ map (union_for (instances_at k all)) (range_with_len 0 values)
        → kind_fits program (unit_values program unit) (unit_kind.Static exprs) ≡ true
    static_fits ground exprs values count e =
        let long : length exprs ≡ unit_values program unit =
        sym (length-map exprs plain_expr) ∙ ap length e ∙ length-map (range_with_len 0 values)
        (union_for (instances_at k all)) ∙ length-range_with_len 0 values ∙ count in
        let plain : AllOf (λ x. (is_union_of x ≡ true) × (ground_fits program x ≡ true))
        (map plain_expr exprs) =
        subst (AllOf (λ x. (is_union_of x ≡ true) × (ground_fits program x ≡ true))) (sym e)
        (all_map (λ x. (is_union_of x ≡ true) × (ground_fits program x ≡ true))
        (union_for (instances_at k all)) (range_with_len 0 values)
        (all_weaker (λ v. v < 0 + values) (λ v. (is_union_of (union_for (instances_at k all) v)
        ≡ true) × (ground_fits program (union_for (instances_at k all) v) ≡ true))
        (λ v lt. (refl, union_fits ground v)) (range_with_len 0 values) (range_below 0 values))) in
        let each = each_of_map (λ x. (is_union_of x ≡ true) × (ground_fits program x ≡ true))
        plain_expr exprs plain in
        three (length exprs == unit_values program unit) (list_all is_union exprs)
        (list_all (expr_fits program) exprs) (eq-eqb (length exprs)
        (unit_values program unit) long)
        (list_all_from is_union exprs
        (all_weaker (λ x. (is_union_of (plain_expr x) ≡ true) × (ground_fits program (plain_expr x)
        ≡ true)) (λ x. is_union x ≡ true) (λ x h. union_same x ∙ h.0) exprs each))
        (list_all_from (expr_fits program) exprs
        (all_weaker (λ x. (is_union_of (plain_expr x) ≡ true) × (ground_fits program (plain_expr x)
        ≡ true)) (λ x. expr_fits program x ≡ true) (λ x h. expr_same program x ∙ h.1) exprs
        each))

    derived_fits : AllOf (IsGround domains names) all → (rules : List Rule)
        → rules ≡ filter_map (λ i. occurrence_by i i.clause.form) (instances_at k all)
        → kind_fits program (unit_values program unit) (unit_kind.Derived rules) ≡ true
    derived_fits ground rules e = list_all_from (rule_fits program 1) rules
        (subst (AllOf (λ rule. rule_fits program 1 rule ≡ true)) (sym e) (occurrences_fit ground))

    kind_is_fit : AllOf (IsGround domains names) all → (kind : UnitKind) (of_name : NameKind)
        (values : ℕ) → values ≡ unit_values program unit
        → plain_kind kind ≡ kind_by of_name values (instances_at k all)
        → kind_fits program (unit_values program unit) kind ≡ true
    kind_is_fit ground (unit_kind.Simple initially initiate terminate) name_kind.Simple values
        count e = simple_fits ground initially initiate terminate values count e
    kind_is_fit ground (unit_kind.Static exprs) name_kind.Static values count e =
        static_fits ground exprs values count (ap exprs_in e)
    kind_is_fit ground (unit_kind.Derived rules) name_kind.Derived values count e =
        derived_fits ground rules (ap rules_in e)
    kind_is_fit ground (unit_kind.Derived rules) name_kind.Input values count e =
        derived_fits ground rules (ap rules_in e)
    kind_is_fit ground (unit_kind.Simple initially initiate terminate) name_kind.Static values
        count e = absurd (cc)
    kind_is_fit ground (unit_kind.Simple initially initiate terminate) name_kind.Derived values
        count e = absurd (cc)
    kind_is_fit ground (unit_kind.Simple initially initiate terminate) name_kind.Input values count
        e = absurd (cc)
    kind_is_fit ground (unit_kind.Static exprs) name_kind.Simple values count e = absurd (cc)
    kind_is_fit ground (unit_kind.Static exprs) name_kind.Derived values count e = absurd (cc)
    kind_is_fit ground (unit_kind.Static exprs) name_kind.Input values count e = absurd (cc)
    kind_is_fit ground (unit_kind.Derived rules) name_kind.Simple values count e = absurd (cc)
    kind_is_fit ground (unit_kind.Derived rules) name_kind.Static values count e = absurd (cc)

    unit_fits : AllOf (IsGround domains names) all → kind_fits program (unit_values program unit)
        unit.kind ≡ true
    unit_fits ground =
        let plain : slice_get (units_of domains names all) k ≡ Some (plain_unit unit) =
        ap (λ us. slice_get us k) (sym units) ∙ slice_get-map plain_unit program.units k
        ∙ ap (option_map plain_unit) here in
        let found = unit_found domains declared all k (plain_unit unit) plain in
        let values : length found.name.values ≡ unit_values program unit =
        sym (ap (λ ns. value_count (slice_get ns unit.name)) named ∙ ap value_count found.at) in
        kind_is_fit ground unit.kind found.name.kind (length found.name.values) values found.kind

  -- each unit fits
  pub units_fit : AllOf (IsGround domains names) all
      → list_all (λ unit. kind_fits program (unit_values program unit) unit.kind) program.units
      ≡ true
  units_fit ground =
      list_all_from (λ unit. kind_fits program (unit_values program unit) unit.kind) program.units
      (all_places (λ unit. kind_fits program (unit_values program unit) unit.kind ≡ true)
      program.units (λ k unit at. unit_fits k unit at ground))
