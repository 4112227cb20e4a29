-- What the rules and expressions of an instance name are atoms of its bodies.
use Rattle.std.proofs.Common.{◌≡◌, ◌⊎◌, inl, inr, ℕ, Bool, true, false, true≢false, ◌==◌, List, []}
use Rattle.std.proofs.Common.{◌∷◌, ◌++◌, map, flat_map, filter, filter_map, cond, Option, Some}
use Rattle.std.proofs.Common.{None, refl, sym, ap, ◌∙◌, if◌then◌else◌}
use Rattle.std.proofs.lemmas.Option.{same_Some}
use Rattle.std.specs.List.{cons_option, range_with_len}
use Rattle.ground_types.specs.Members.{contains}
use Rattle.ground_types.proofs.Members.{contains_either, first_or_rest}
use Rattle.ground_types.specs.Meaning.{units_of_trigger, units_of_what, units_of_rule}
use Rattle.ground_types.specs.Sound.{is_input}
use Rattle.ground_types.specs.declared.program.Name.{Name}
use Rattle.ground_types.specs.declared.program.NameKind.{NameKind}
use Rattle.ground_types.specs.declared.program.NameKind.TheVariants as name_kind
use Rattle.ground_types.specs.declared.program.Trigger.TheVariants as trigger
use Rattle.ground_types.specs.declared.program.Rule.{Rule}
use Rattle.rule_forms.specs.declared.form.Atom.{Atom}
use Rattle.rule_forms.specs.declared.form.Fv.{Fv}
use Rattle.rule_forms.specs.declared.form.EventText.{EventText}
use Rattle.rule_forms.specs.declared.form.EventText.TheVariants as event
use Rattle.rule_forms.specs.declared.form.Body.{Body}
use Rattle.rule_forms.specs.declared.form.Body.TheVariants as body
use Rattle.rule_forms.specs.Forms.{Expression, Expressions, Value_of, Union_of, Intersect_of}
use Rattle.rule_forms.specs.Forms.{Complement_of, none, more, PlainForm, Initiated, Terminated}
use Rattle.rule_forms.specs.Forms.{Happens, HoldsFor, conditions_of}
use Rattle.decl_known.specs.Mentions.{AnyFluent, AnyEvent, Mention, fits, fluent_value, event_atom}
use Rattle.decl_known.specs.Mentions.{event_mention, body_mentions, leaves, leaves_of_all}
use Rattle.decl_known.specs.Mentions.{leaves_of}
use Rattle.ground_types.specs.Words.{declaration}
use Rattle.ground_rules.specs.Assignments.{Instance}
use Rattle.ground_rules.specs.Atoms.{ground_atom, event_by, ground_event, ground_condition}
use Rattle.ground_rules.specs.Atoms.{ground_rule, head_value, GroundExpression, ground_expression}
use Rattle.ground_rules.specs.Atoms.{ground_expressions, all_of}
use Rattle.ground_rules.specs.Grounded.{initiation_by, termination_by, occurrence_by, expression_by}
use Rattle.ground_rules.specs.Grounded.{union_for, kind_by}
use Rattle.decl_known.proofs.ComputedKinds.{fluent_computed}
use Rattle.ground_rules.proofs.Members.{In, in_front, in_back}
use Rattle.ground_rules.proofs.PlainUnits.{units_in, units_in_all, units_in_kind}

-- ---- members of lists that are made of others

module _ {A : Type 0} where
  one_passing : (b : Bool) (x y : A) (ys : List A) → In x (cond b (y ∷ ys) ys)
      → ((y ≡ x) × (b ≡ true)) ⊎ In x ys
  one_passing true x y ys (inl e) = inl (e, refl)
  one_passing true x y ys (inr i) = inr i
  one_passing false x y ys i = inr i

  -- what a filter leaves
  pub in_filter : (p : A → Bool) (xs : List A) (x : A) → In x (filter p xs) → In x xs × (p x ≡ true)
  in_filter p [] x i = absurd i
  in_filter p (y ∷ ys) x i = elim (one_passing (p y) x y (filter p ys) i) [
    | inl here ↦ (inl here.0, sym (ap p here.0) ∙ here.1)
    | inr later ↦ (let rest = in_filter p ys x later in (inr rest.0, rest.1))
  ]

  -- a number of one of many lists
  pub in_some : (g : A → List ℕ) (xs : List A) (n : ℕ) → contains (flat_map g xs) n ≡ true
      → (x : A) × In x xs × (contains (g x) n ≡ true)
  in_some g [] n is = absurd (true≢false (sym is))
  in_some g (x ∷ xs) n is = elim (contains_either (g x) (flat_map g xs) n is) [
    | inl here ↦ (x, inl refl, here)
    | inr later ↦ (let rest = in_some g xs n later in (rest.0, inr rest.1, rest.2))
  ]

module _ {A B : Type 0} (f : A → Option B) where
  one_given : (o : Option B) (y : B) (ys : List B) → In y (cons_option o ys) → (o ≡ Some y)
      ⊎ In y ys
  one_given None y ys i = inr i
  one_given (Some z) y ys (inl e) = inl (ap Some e)
  one_given (Some z) y ys (inr i) = inr i

  pub in_filter_map : (xs : List A) (y : B) → In y (filter_map f xs) → (x : A) × In x xs
      × (f x ≡ Some y)
  in_filter_map [] y i = absurd i
  in_filter_map (x ∷ xs) y i = elim (one_given (f x) y (filter_map f xs) i) [
    | inl here ↦ (x, inl refl, here)
    | inr later ↦ (let rest = in_filter_map xs y later in (rest.0, inr rest.1, rest.2))
  ]

module _ {A B : Type 0} (f : A → B) where
  pub in_map : (xs : List A) (y : B) → In y (map f xs) → (x : A) × In x xs × (f x ≡ y)
  in_map [] y i = absurd i
  in_map (x ∷ xs) y (inl e) = (x, inl refl, e)
  in_map (x ∷ xs) y (inr i) = let rest = in_map xs y i in (rest.0, inr rest.1, rest.2)

-- ---- atoms

-- the unit of an atom among some, which is no input event
pub record IsNamed (i : Instance) (ms : List Mention) (n : ℕ) : Type 0 where
  pub mention : Mention
  pub among : In mention ms
  pub is : n ≡ ground_atom i mention.atom
  pub computed : (name : Name) → declaration i.clause.names mention.atom.name ≡ Some name
      → fits mention.role name.kind ≡ true → is_input name.kind ≡ false

named_front : (i : Instance) (ms others : List Mention) (n : ℕ) → IsNamed i ms n
    → IsNamed i (ms ++ others) n
named_front i ms others n is = record {
  mention = is.mention;
  among = in_front is.mention ms others
      is.among;
  is = is.is;
  computed = is.computed;
}

named_back : (i : Instance) (ms others : List Mention) (n : ℕ) → IsNamed i others n
    → IsNamed i (ms ++ others) n
named_back i ms others n is = record {
  mention = is.mention;
  among = in_back is.mention ms others
      is.among;
  is = is.is;
  computed = is.computed;
}

only_one : (x n : ℕ) → contains (x ∷ []) n ≡ true → n ≡ x
only_one x n is = elim (first_or_rest x [] n is) [
  | inl e ↦ sym e
  | inr later ↦ absurd (true≢false (sym later))
]

fluent_named : (i : Instance) (fv : Fv) (n : ℕ) → contains (ground_atom i fv.atom ∷ []) n ≡ true
    → IsNamed i (fluent_value AnyFluent fv ∷ []) n
fluent_named i fv n is = record {
  mention = fluent_value AnyFluent fv;
  among = inl refl;
  is = only_one (ground_atom i fv.atom) n is;
  computed = λ name declared fit. fluent_computed name.kind fit;
}

atom_named : (i : Instance) (atom : Atom) (n : ℕ) (o : Option Name)
    → declaration i.clause.names atom.name ≡ o
    → contains (units_of_trigger (event_by o (ground_atom i atom))) n ≡ true
    → IsNamed i (event_atom AnyEvent atom ∷ []) n
atom_named i atom n None e is = record {
  mention = event_atom AnyEvent atom;
  among = inl refl;
  is = only_one (ground_atom i atom) n is;
  computed = λ name declared fit. absurd (let no : None ≡ Some name = sym e ∙ declared in cc);
}
atom_named i atom n (Some found) e is = by (is_input found.kind) refl
  where
    by : (b : Bool) → is_input found.kind ≡ b → IsNamed i (event_atom AnyEvent atom ∷ []) n
    by true k = absurd (true≢false (sym (sym
        (ap (λ b. contains (units_of_trigger (if b then trigger.Event (ground_atom i atom)
        else trigger.Derived (ground_atom i atom))) n) k) ∙ is)))
    by false k = record {
      mention = event_atom AnyEvent atom;
      among = inl refl;
      is = only_one (ground_atom i atom) n
          (sym (ap (λ b. contains (units_of_trigger (if b then trigger.Event (ground_atom i atom)
          else trigger.Derived (ground_atom i atom))) n) k) ∙ is);
      computed = λ name declared fit. ap (λ (m : Name). is_input m.kind)
          (same_Some name found (sym declared ∙ e)) ∙ k;
    }

event_named : (i : Instance) (e : EventText) (n : ℕ)
    → contains (units_of_trigger (ground_event i e)) n ≡ true → IsNamed i (event_mention e ∷ []) n
event_named i (event.Plain atom) n is = atom_named i atom n (declaration i.clause.names atom.name)
    refl is
event_named i (event.Start fv) n is = fluent_named i fv n is
event_named i (event.End fv) n is = fluent_named i fv n is

conditions_named : (i : Instance) (bodies : List Body) (n : ℕ)
    → contains (flat_map (λ cond. units_of_what cond.what) (filter_map (ground_condition i)
    bodies)) n ≡ true → IsNamed i (flat_map body_mentions bodies) n
conditions_named i [] n is = absurd (true≢false (sym is))
conditions_named i (body.Happens positive e ∷ others) n is =
    elim (contains_either (units_of_trigger (ground_event i e))
    (flat_map (λ cond. units_of_what cond.what) (filter_map (ground_condition i) others)) n is) [
      | inl here ↦ named_front i (event_mention e ∷ []) (flat_map body_mentions others) n
          (event_named i e n here)
      | inr later ↦ named_back i (event_mention e ∷ []) (flat_map body_mentions others) n
          (conditions_named i others n later)
    ]
conditions_named i (body.Holds positive fv ∷ others) n is =
    elim (contains_either (ground_atom i fv.atom ∷ []) (flat_map (λ cond. units_of_what cond.what)
    (filter_map (ground_condition i) others)) n is) [
      | inl here ↦ named_front i (fluent_value AnyFluent fv ∷ []) (flat_map body_mentions others) n
          (fluent_named i fv n here)
      | inr later ↦ named_back i (fluent_value AnyFluent fv ∷ []) (flat_map body_mentions others) n
          (conditions_named i others n later)
    ]
conditions_named i (body.Unequal x y ∷ others) n is = conditions_named i others n is

rule_named : (i : Instance) (value : ℕ) (bodies : List Body) (rule : Rule) (n : ℕ)
    → ground_rule i value bodies ≡ Some rule → contains (units_of_rule rule) n ≡ true
    → IsNamed i (flat_map body_mentions bodies) n
rule_named i value (body.Happens true e ∷ others) rule n given is =
    let same : contains (units_of_trigger (ground_event i e) ++ flat_map
    (λ cond. units_of_what cond.what) (filter_map (ground_condition i) others)) n
    ≡ contains (units_of_rule rule) n =
    ap (λ (r : Rule). contains (units_of_rule r) n)
    (same_Some (record {
      value = value;
      trigger = ground_event i e;
      conds = filter_map (ground_condition i) others;
    }) rule given) in
    elim (contains_either (units_of_trigger (ground_event i e))
    (flat_map (λ cond. units_of_what cond.what) (filter_map (ground_condition i) others)) n (same
    ∙ is)) [
      | inl here ↦ named_front i (event_mention e ∷ []) (flat_map body_mentions others) n
          (event_named i e n here)
      | inr later ↦ named_back i (event_mention e ∷ []) (flat_map body_mentions others) n
          (conditions_named i others n later)
    ]
rule_named i value bodies rule n given is = absurd (cc)

mutual
  expression_named : (i : Instance) (e : Expression) (n : ℕ)
      → contains (units_in (ground_expression i e)) n ≡ true → IsNamed i (leaves e) n
  expression_named i (Value_of fv) n is = fluent_named i fv n is
  expression_named i (Union_of es) n is = members_named i es n is
  expression_named i (Intersect_of es) n is = members_named i es n is
  expression_named i (Complement_of e es) n is =
      elim (contains_either (units_in (ground_expression i e))
      (units_in_all (ground_expressions i es)) n is) [
        | inl here ↦ named_front i (leaves e) (leaves_of_all es) n (expression_named i e n here)
        | inr later ↦ named_back i (leaves e) (leaves_of_all es) n (members_named i es n later)
      ]

  members_named : (i : Instance) (es : Expressions) (n : ℕ)
      → contains (units_in_all (ground_expressions i es)) n ≡ true → IsNamed i (leaves_of_all es) n
  members_named i none n is = absurd (true≢false (sym is))
  members_named i (more e es) n is = elim (contains_either (units_in (ground_expression i e))
      (units_in_all (ground_expressions i es)) n is) [
        | inl here ↦ named_front i (leaves e) (leaves_of_all es) n (expression_named i e n here)
        | inr later ↦ named_back i (leaves e) (leaves_of_all es) n (members_named i es n later)
      ]

-- ---- statements

-- the atoms behind the head
abbrev pub behind : PlainForm → List Mention
behind form = flat_map body_mentions (conditions_of form) ++ leaves_of form

-- a rule names units in its conditions alone
conditions_alone : (i : Instance) (bodies : List Body) (rule : Rule) (n : ℕ)
    → ground_rule i (head_value i) bodies ≡ Some rule → contains (units_of_rule rule) n ≡ true
    → IsNamed i (flat_map body_mentions bodies ++ []) n
conditions_alone i bodies rule n given is =
    named_front i (flat_map body_mentions bodies) [] n (rule_named i (head_value i) bodies rule n
    given is)

initiation_named : (i : Instance) (form : PlainForm) (rule : Rule) (n : ℕ) → initiation_by i form
    ≡ Some rule → contains (units_of_rule rule) n ≡ true → IsNamed i (behind form) n
initiation_named i (Initiated fv bodies) rule n given is = conditions_alone i bodies rule n given is
initiation_named i form rule n given is = absurd (cc)

termination_named : (i : Instance) (form : PlainForm) (rule : Rule) (n : ℕ) → termination_by i form
    ≡ Some rule → contains (units_of_rule rule) n ≡ true → IsNamed i (behind form) n
termination_named i (Terminated fv bodies) rule n given is =
    conditions_alone i bodies rule n given is
termination_named i form rule n given is = absurd (cc)

occurrence_named : (i : Instance) (form : PlainForm) (rule : Rule) (n : ℕ) → occurrence_by i form
    ≡ Some rule → contains (units_of_rule rule) n ≡ true → IsNamed i (behind form) n
occurrence_named i (Happens atom bodies) rule n given is = conditions_alone i bodies rule n given is
occurrence_named i form rule n given is = absurd (cc)

definition_named : (i : Instance) (form : PlainForm) (e : GroundExpression) (n : ℕ)
    → expression_by i form ≡ Some e → contains (units_in e) n ≡ true → IsNamed i (behind form) n
definition_named i (HoldsFor fv expression) e n given is =
    expression_named i expression n (ap (λ (x : GroundExpression). contains (units_in x) n)
    (same_Some (ground_expression i expression) e given) ∙ is)
definition_named i form e n given is = absurd (cc)

-- ---- kinds of units

-- one of some instances names a unit
pub record IsNamedBy (mine : List Instance) (n : ℕ) : Type 0 where
  pub one : Instance
  pub among : In one mine
  pub named : IsNamed one (behind one.clause.form) n

rules_named : (by : Instance → PlainForm → Option Rule) (mine : List Instance) (n : ℕ)
    → ((i : Instance) (form : PlainForm) (rule : Rule) → by i form ≡ Some rule
    → contains (units_of_rule rule) n ≡ true → IsNamed i (behind form) n)
    → contains (flat_map units_of_rule (filter_map (λ i. by i i.clause.form) mine)) n ≡ true
    → IsNamedBy mine n
rules_named by mine n each is =
    let some = in_some units_of_rule (filter_map (λ i. by i i.clause.form) mine) n is in
    let from = in_filter_map (λ i. by i i.clause.form) mine some.0 some.1 in
    record {
      one = from.0;
      among = from.1;
      named = each from.0 from.0.clause.form some.0 from.2
          some.2;
    }

in_all : (es : List GroundExpression) (n : ℕ) → contains (units_in_all (all_of es)) n ≡ true
    → (e : GroundExpression) × In e es × (contains (units_in e) n ≡ true)
in_all [] n is = absurd (true≢false (sym is))
in_all (e ∷ es) n is = elim (contains_either (units_in e) (units_in_all (all_of es)) n is) [
  | inl here ↦ (e, inl refl, here)
  | inr later ↦ (let rest = in_all es n later in (rest.0, inr rest.1, rest.2))
]

union_named : (mine : List Instance) (v n : ℕ) → contains (units_in (union_for mine v)) n ≡ true
    → IsNamedBy mine n
union_named mine v n is =
    let some = in_all (filter_map (λ i. expression_by i i.clause.form)
    (filter (λ i. head_value i == v) mine)) n is in
    let from = in_filter_map (λ (i : Instance). expression_by i i.clause.form)
    (filter (λ i. head_value i == v) mine) some.0 some.1 in
    record {
      one = from.0;
      among = (in_filter (λ i. head_value i == v) mine from.0 from.1).0;
      named = definition_named from.0 from.0.clause.form some.0 n from.2 some.2;
    }

unions_named : (mine : List Instance) (values n : ℕ)
    → contains (flat_map units_in (map (union_for mine) (range_with_len 0 values))) n ≡ true
    → IsNamedBy mine n
unions_named mine values n is =
    let some = in_some units_in (map (union_for mine) (range_with_len 0 values)) n is in
    let from = in_map (union_for mine) (range_with_len 0 values) some.0 some.1 in
    union_named mine from.0 n (ap (λ (e : GroundExpression). contains (units_in e) n) from.2
    ∙ some.2)

simple_named : (values : ℕ) (mine : List Instance) (n : ℕ)
    → contains (units_in_kind (kind_by name_kind.Simple values mine)) n ≡ true → IsNamedBy mine n
simple_named values mine n is =
    elim (contains_either (flat_map units_of_rule (filter_map (λ i. initiation_by i i.clause.form)
    mine)) (flat_map units_of_rule (filter_map (λ i. termination_by i i.clause.form) mine)) n is) [
      | inl here ↦ rules_named initiation_by mine n (λ i form rule. initiation_named i form rule n)
          here
      | inr later ↦ rules_named termination_by mine n (λ i form rule. termination_named i form rule
          n) later
    ]

pub kind_named : (kind : NameKind) (values : ℕ) (mine : List Instance) (n : ℕ)
    → contains (units_in_kind (kind_by kind values mine)) n ≡ true → IsNamedBy mine n
kind_named name_kind.Simple values mine n is = simple_named values mine n is
kind_named name_kind.Static values mine n is = unions_named mine values n is
kind_named name_kind.Input values mine n is = rules_named occurrence_by mine n (λ i form rule.
    occurrence_named i form rule n) is
kind_named name_kind.Derived values mine n is = rules_named occurrence_by mine n (λ i form rule.
    occurrence_named i form rule n) is
