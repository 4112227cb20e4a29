-- The layers of a grounded program are in order.
use Rattle.std.proofs.Common.{◌≡◌, inl, inr, ℕ, zero, suc, ◌+◌, ◌<◌, ◌≤◌, max, true, false}
use Rattle.std.proofs.Common.{true≢false, ◌==◌, List, [], ◌∷◌, map, flat_map, fold, length}
use Rattle.std.proofs.Common.{slice_get, slice_index_or, Some, refl, sym, ap, subst, ◌∙◌, arith}
use Rattle.std.proofs.Common.{if◌then◌else◌}
use Rattle.std.proofs.lemmas.Bool.{eqb-true, or_left, or_right, or_cases}
use Rattle.std.proofs.lemmas.List.{length-map}
use Rattle.std.proofs.lemmas.List.Folds.{list_any-append}
use Rattle.std.proofs.lemmas.Option.{same_Some, get_or_from_slice_get}
use Rattle.std.specs.List.{list_any}
use Rattle.std.specs.Str.{bytes_eq}
use Rattle.ground_types.specs.Members.{contains}
use Rattle.ground_types.specs.Meaning.{units_of_kind, IsLayered}
use Rattle.ground_types.specs.Recognition.{kind_of}
use Rattle.ground_types.specs.Sound.{is_input, arguments_of}
use Rattle.ground_types.specs.declared.program.Domain.{Domain}
use Rattle.ground_types.specs.declared.program.Name.{Name}
use Rattle.ground_types.specs.declared.program.NameKind.{NameKind}
use Rattle.ground_types.specs.declared.program.Program.{Program}
use Rattle.rule_forms.specs.Forms.{PlainForm, PlainStatement, plain, Initially, Initiated}
use Rattle.rule_forms.specs.Forms.{Terminated, Happens, HoldsFor, is_rule}
use Rattle.rule_forms.specs.Sound.{AllOf}
use Rattle.decl_known.specs.declared.checked.Checked.{Checked}
use Rattle.ground_types.specs.Words.{has, place_in, name_words, declaration}
use Rattle.decl_known.specs.Mentions.{SimpleFluent, StaticFluent, DerivedEvent, Mention, fits}
use Rattle.decl_known.specs.Mentions.{fluent_value, event_atom, head_of, mentions}
use Rattle.decl_known.specs.Checked.{plain_checked}
use Rattle.decl_known.specs.Sound.{IsSound as IsSoundChecked}
use Rattle.decl_known.specs.Occurrences.{defines, body_of, bodies_of, occurs}
use Rattle.decl_known.specs.Layers.{layer_at, layer_of, greatest, layer_by, IsLayering}
use Rattle.decl_known.proofs.Greatest.{greatest_cons}
use Rattle.word_table.proofs.LookUps.{same_word, equal_word, word_there, word_of_name}
use Rattle.ground_names.specs.Numbers.{with_first, numbered}
use Rattle.ground_rules.specs.Assignments.{Clause, Instance, assignments, is_permitted, instances}
use Rattle.ground_rules.specs.Atoms.{ground_atom, ground_args, unit_by, head_unit}
use Rattle.ground_rules.specs.Grounded.{PlainUnit, plain_unit, PlainProgram, plain_program}
use Rattle.ground_rules.specs.Grounded.{instances_at, units_of, greatest_layer, unit_layer}
use Rattle.ground_rules.specs.Grounded.{clauses_of, numbered_names, clauses, grounded}
use Rattle.decl_known.proofs.ComputedKinds.{simple_computed, static_computed, derived_computed}
use Rattle.ground_rules.proofs.Members.{In, member_of, all_members, all_filter, all_map}
use Rattle.ground_rules.proofs.Members.{all_flat_map, in_front, in_back}
use Rattle.ground_rules.proofs.InOrder.{keys_in_order}
use Rattle.ground_rules.proofs.Mentioned.{Grounds, IsGround, instances_ground}
use Rattle.ground_rules.proofs.Named.{IsNamed, behind, in_filter, kind_named}
use Rattle.ground_rules.proofs.PlainUnits.{units_in_kind, named_by_plain}
use Rattle.ground_rules.proofs.Renumbered.{same_words}
use Rattle.ground_rules.proofs.UnitsAt.{unit_of, unit_at, unit_found}

-- ---- words in the bodies of a name

has_of_mention : (ms : List Mention) (m : Mention) → In m ms → has (map (λ k. k.atom.name) ms)
    m.atom.name ≡ true
has_of_mention [] m i = absurd i
has_of_mention (k ∷ ms) m (inl e) =
    or_left (bytes_eq k.atom.name m.atom.name) (has (map (λ j. j.atom.name) ms) m.atom.name)
    (equal_word k.atom.name m.atom.name (ap (λ (j : Mention). j.atom.name) e))
has_of_mention (k ∷ ms) m (inr i) = or_right (bytes_eq k.atom.name m.atom.name)
    (has (map (λ j. j.atom.name) ms) m.atom.name) (has_of_mention ms m i)

module _ (word other : List ℕ) where
  abbrev from_rule : PlainForm → List (List ℕ)
  from_rule form = if defines word form then body_of form else []

  -- what stands in a body of a rule for a word occurs in the bodies of the word
  occurs_by_rule : (rules : List PlainStatement) (s : PlainStatement) → In s rules
      → defines word s.form ≡ true → has (body_of s.form) other ≡ true → occurs rules other word
      ≡ true
  occurs_by_rule [] s i d h = absurd i
  occurs_by_rule (r ∷ rules) s (inl e) d h =
      list_any-append (λ o. bytes_eq o other) (from_rule r.form) (bodies_of rules word)
      ∙ or_left (has (from_rule r.form) other) (has (bodies_of rules word) other)
      (ap (λ (x : PlainStatement). has (from_rule x.form) other) e
      ∙ ap (λ b. has (if b then body_of s.form else []) other) d ∙ h)
  occurs_by_rule (r ∷ rules) s (inr i) d h =
      list_any-append (λ o. bytes_eq o other) (from_rule r.form) (bodies_of rules word)
      ∙ or_right (has (from_rule r.form) other) (has (bodies_of rules word) other)
      (occurs_by_rule rules s i d h)

-- ---- instances are of rules

-- what stands in the bodies of an instance occurs in the bodies of the name that it defines
abbrev IsOfRules : List PlainStatement → Instance → Type 0
IsOfRules rules i = (word other : List ℕ) → defines word i.clause.form ≡ true
    → has (body_of i.clause.form) other ≡ true → occurs rules other word ≡ true

of_rules : (domains : List Domain) (names : List Name) (rules : List PlainStatement)
    → AllOf (IsOfRules rules) (flat_map instances (clauses_of domains names rules))
of_rules domains names rules =
    all_flat_map (IsOfRules rules) instances (clauses_of domains names rules)
    (all_map (λ (clause : Clause). AllOf (IsOfRules rules) (instances clause))
    (λ (s : PlainStatement). record { domains = domains; names = names; form = s.form }) rules
    (all_members (λ s. AllOf (IsOfRules rules)
    (instances (record { domains = domains; names = names; form = s.form }))) rules (λ s i.
    (let clause : Clause = record { domains = domains; names = names; form = s.form } in
    all_filter (IsOfRules rules) is_permitted
    (map (λ assignment. record { clause = clause; assignment = assignment })
    (assignments clause))
    (all_map (IsOfRules rules) (λ assignment. record { clause = clause; assignment = assignment })
    (assignments clause) (each (assignments clause) clause (λ word other. occurs_by_rule word
    other rules s i)))))))
  where
    each : (list : List (List ℕ)) (clause : Clause)
        → ((word other : List ℕ) → defines word clause.form ≡ true → has (body_of clause.form) other
        ≡ true → occurs rules other word ≡ true)
        → AllOf (λ (assignment : List ℕ). IsOfRules rules (record {
          clause = clause;
          assignment =
              assignment;
        })) list
    each [] clause f = tt
    each (assignment ∷ list) clause f = (f, each list clause f)

-- ---- heads

-- the unit of a rule is that of its only head, which is no input event
record HasUnit (i : Instance) (form : PlainForm) : Type 0 where
  pub head : Mention
  pub only : head_of form ≡ head ∷ []
  pub unit : unit_by i form ≡ ground_atom i head.atom
  pub computed : (kind : NameKind) → fits head.role kind ≡ true → is_input kind ≡ false

by_head : (i : Instance) (form : PlainForm) (head : Mention) → head_of form ≡ head ∷ []
    → unit_by i form ≡ ground_atom i head.atom
    → ((kind : NameKind) → fits head.role kind ≡ true → is_input kind ≡ false) → HasUnit i form
by_head i form head only unit computed = record {
  head = head;
  only = only;
  unit = unit;
  computed = computed;
}

has_unit : (i : Instance) (form : PlainForm) → is_rule form ≡ true → HasUnit i form
has_unit i (Initially fv) is = by_head i _ (fluent_value SimpleFluent fv) refl refl simple_computed
has_unit i (Initiated fv bodies) is =
    by_head i _ (fluent_value SimpleFluent fv) refl refl simple_computed
has_unit i (Terminated fv bodies) is =
    by_head i _ (fluent_value SimpleFluent fv) refl refl simple_computed
has_unit i (Happens atom bodies) is =
    by_head i _ (event_atom DerivedEvent atom) refl refl derived_computed
has_unit i (HoldsFor fv e) is =
    by_head i _ (fluent_value StaticFluent fv) refl refl static_computed
has_unit i form is = absurd (true≢false (sym is))

-- ---- layers of names

-- numbers are at most the greatest of them
start_most : (start : ℕ) (ns : List ℕ) → start ≤ fold max start ns
start_most start [] = omega arith
start_most start (n ∷ ns) = let rest = start_most (max start n) ns in omega (arith, rest)

each_most : (start : ℕ) (ns : List ℕ) (place : ℕ) → slice_index_or ns place 0 ≤ fold max start ns
each_most start [] place = omega arith
each_most start (n ∷ ns) zero = let rest = start_most (max start n) ns in omega (arith, rest)
each_most start (n ∷ ns) (suc place) = each_most (max start n) ns place

among_greatest : (f : List ℕ → ℕ) (words : List (List ℕ)) (word : List ℕ) → has words word ≡ true
    → f word ≤ greatest (map f words)
among_greatest f [] word is = absurd (true≢false (sym is))
among_greatest f (w ∷ words) word is = elim (or_cases (bytes_eq w word) (has words word) is) [
  | inl here ↦ (let same : f w ≡ f word = ap f (same_word w word here) in
      omega (arith, greatest_cons (f w) (map f words), same))
  | inr later ↦ omega (arith, greatest_cons (f w) (map f words), among_greatest f words word later)
]

-- what numbering keeps of a name
record IsNumbered (names : List Name) (place : ℕ) (name : Name) : Type 0 where
  pub declared : Name
  pub at : slice_get names place ≡ Some declared
  pub word : name.word ≡ declared.word
  pub kind : name.kind ≡ declared.kind

numbered_at : (domains : List Domain) (event unit : ℕ) (names : List Name) (place : ℕ)
    (name : Name) → slice_get (numbered domains event unit names) place ≡ Some name
    → IsNumbered names place name
numbered_at domains event unit [] place name at = absurd (cc)
numbered_at domains event unit (n ∷ names) zero name at =
    let same : with_first (if is_input n.kind then event else unit) n ≡ name =
    same_Some (with_first (if is_input n.kind then event else unit) n) name at in
    record {
      declared = n;
      at = refl;
      word = ap (λ (m : Name). m.word) (sym same);
      kind = ap (λ (m : Name). m.kind) (sym same);
    }
numbered_at domains event unit (n ∷ names) (suc place) name at =
    let rest = numbered_at domains (if is_input n.kind then event + length (arguments_of domains n)
    else event) (if is_input n.kind then unit else unit + length (arguments_of domains n)) names
    place name at in
    record { declared = rest.declared; at = rest.at; word = rest.word; kind = rest.kind }

module _ (checked : Checked) (of_name : List ℕ) (layering : IsLayering (map plain checked.rules)
    checked.names of_name) where
  abbrev rules : List PlainStatement
  rules = map plain checked.rules

  abbrev names : List Name
  names = numbered_names (plain_checked checked)

  layer_is : (place : ℕ) (name : Name) → slice_get names place ≡ Some name → is_input name.kind
      ≡ false
      → slice_index_or of_name place 0 ≡ suc
      (greatest (map (layer_of checked.names of_name) (bodies_of rules name.word)))
  layer_is place name at computed =
      let is = numbered_at checked.domains 0 0 checked.names place name at in
      get_or_from_slice_get of_name place (layer_by rules checked.names of_name is.declared) 0
      (layering.each place is.declared is.at)
      ∙ ap (λ b. if b then 0 else suc (greatest (map (layer_of checked.names of_name)
      (bodies_of rules is.declared.word)))) (sym (ap is_input is.kind) ∙ computed)
      ∙ ap (λ word. suc (greatest (map (layer_of checked.names of_name) (bodies_of rules word))))
      (sym is.word)

  -- a name that occurs in the bodies of another has a smaller layer
  layer_falls : (place : ℕ) (name : Name) → slice_get names place ≡ Some name → is_input name.kind
      ≡ false → (other : List ℕ) (lower : ℕ) → place_in (name_words names) other ≡ Some lower
      → occurs rules other name.word ≡ true → slice_index_or of_name lower 0 < slice_index_or
      of_name place 0
  layer_falls place name at computed other lower placed occurs_in =
      let there : layer_of checked.names of_name other ≡ slice_index_or of_name lower 0 =
      ap (layer_at of_name) (sym (ap (λ words. place_in words other) (same_words checked.domains 0
      0 checked.names)) ∙ placed) in
      omega (
        arith,
        layer_is place name at computed,
        there,
        among_greatest (layer_of checked.names of_name) (bodies_of rules name.word) other
            occurs_in,
      )

  module _ (sound : IsSoundChecked checked) where
    abbrev all : List Instance
    all = flat_map instances (clauses (plain_checked checked))

    abbrev units : List PlainUnit
    units = units_of checked.domains names all

    abbrev key : PlainUnit → ℕ
    key = unit_layer of_name

    -- a unit with a smaller layer
    abbrev IsLower : PlainUnit → ℕ → Type 0
    IsLower x other = (y : PlainUnit) × (slice_get units other ≡ Some y) × (key y < key x)

    -- what an instance that defines a unit names is of a smaller layer
    module _ (i : Instance) (ground : IsGround checked.domains names i) (of : IsOfRules rules i)
        (unit : ℕ) (x : PlainUnit) (at : slice_get units unit ≡ Some x) (head_is : head_unit i
        ≡ unit)
        (other : ℕ) (named : IsNamed i (behind i.clause.form) other) where
      h : HasUnit i i.clause.form
      h = has_unit i i.clause.form ground.rule

      head_grounds : Grounds checked.domains names i h.head
      head_grounds = member_of (Grounds checked.domains names i) (mentions i.clause.form)
          ground.mentioned h.head
          (in_front h.head (head_of i.clause.form) (behind i.clause.form)
          (subst (In h.head) (sym h.only) (inl refl)))

      body_grounds : Grounds checked.domains names i named.mention
      body_grounds = member_of (Grounds checked.domains names i) (mentions i.clause.form)
          ground.mentioned named.mention
          (in_back named.mention (head_of i.clause.form) (behind i.clause.form) named.among)

      head_computed : is_input head_grounds.name.kind ≡ false
      head_computed = h.computed head_grounds.name.kind head_grounds.kind

      body_computed : is_input body_grounds.name.kind ≡ false
      body_computed = named.computed body_grounds.name
          (ap (λ ns. declaration ns named.mention.atom.name) ground.names_are ∙ body_grounds.found)
          body_grounds.kind

      -- the unit is one of the name in the head
      head_args : List ℕ
      head_args = ground_args i head_grounds.name h.head.atom.args

      head_number : head_grounds.name.first + head_grounds.number ≡ unit
      head_number = sym head_grounds.atom ∙ sym h.unit ∙ head_is

      head_at : slice_get units (head_grounds.name.first + head_grounds.number)
          ≡ Some (unit_of all head_grounds.place head_grounds.name head_args
          (head_grounds.name.first + head_grounds.number))
      unfolding head_args
      head_at = unit_at checked.domains checked.names all head_grounds.place head_grounds.name
          head_grounds.number head_args head_grounds.at head_computed head_grounds.args

      head_place : head_grounds.place ≡ x.name
      head_place = ap (λ (u : PlainUnit). u.name)
          (same_Some (unit_of all head_grounds.place head_grounds.name head_args
          (head_grounds.name.first + head_grounds.number)) x (sym head_at
          ∙ ap (slice_get units) head_number ∙ at))

      -- and the other one of the name in the body
      body_number : ℕ
      body_number = body_grounds.name.first + body_grounds.number

      body_args : List ℕ
      body_args = ground_args i body_grounds.name named.mention.atom.args

      body_at : slice_get units other ≡ Some (unit_of all body_grounds.place body_grounds.name
          body_args body_number)
      unfolding body_args body_number
      body_at =
          ap (slice_get units) (named.is ∙ body_grounds.atom)
          ∙ unit_at checked.domains checked.names all body_grounds.place body_grounds.name
          body_grounds.number body_args body_grounds.at body_computed body_grounds.args

      -- the name in the body occurs in the bodies of the name in the head
      head_word : h.head.atom.name ≡ head_grounds.name.word
      head_word = same_Some h.head.atom.name head_grounds.name.word
          (sym (word_there (name_words names) head_grounds.place h.head.atom.name
          head_grounds.placed) ∙ word_of_name names head_grounds.place head_grounds.name
          head_grounds.at)

      occurs_here : occurs rules named.mention.atom.name h.head.atom.name ≡ true
      occurs_here = of h.head.atom.name named.mention.atom.name
          (ap (list_any (λ m. bytes_eq m.atom.name h.head.atom.name)) h.only
          ∙ or_left (bytes_eq h.head.atom.name h.head.atom.name) false
          (equal_word h.head.atom.name h.head.atom.name refl))
          (has_of_mention (behind i.clause.form) named.mention named.among)

      named_lower : IsLower x other
      named_lower = (
        unit_of all body_grounds.place body_grounds.name body_args body_number,
        body_at,
        subst (λ place. slice_index_or of_name body_grounds.place 0 < slice_index_or of_name place
            0) head_place
            (layer_falls head_grounds.place head_grounds.name head_grounds.at head_computed
            named.mention.atom.name body_grounds.place body_grounds.placed
            (subst (λ word. occurs rules named.mention.atom.name word ≡ true) head_word
            occurs_here)),
      )

    layer_of_unit : (unit : ℕ) (x : PlainUnit) → slice_get units unit ≡ Some x → 1 ≤ key x
    layer_of_unit unit x at =
        let is = unit_found checked.domains checked.names all unit x at in
        omega (arith, layer_is x.name is.name is.at is.computed)

    module _ (program : Program) (is_grounded : plain_program program
        ≡ grounded (plain_checked checked) of_name) where
      units_are : map plain_unit program.units ≡ units
      units_are = ap (λ (p : PlainProgram). p.units) is_grounded

      -- what a unit of the program names is of smaller layers
      lower : (unit : ℕ) (x : PlainUnit) → slice_get units unit ≡ Some x → (other : ℕ)
          → contains (units_of_kind (kind_of program unit)) other ≡ true → IsLower x other
      lower unit x at other is =
          let plain_is = named_by_plain program unit x (ap (λ l. slice_get l unit) units_are ∙ at)
          in
          let found = unit_found checked.domains checked.names all unit x at in
          let by = kind_named found.name.kind (length found.name.values) (instances_at unit all)
          other
          (sym (ap (λ k. contains (units_in_kind k) other) found.kind)
          ∙ sym (ap (λ l. contains l other) plain_is) ∙ is) in
          let mine = in_filter (λ i. head_unit i == unit) all by.one by.among in
          named_lower by.one (member_of (IsGround checked.domains names) all
          (instances_ground checked sound) by.one mine.0)
          (member_of (IsOfRules rules) all (of_rules checked.domains names rules) by.one mine.0)
          unit x at (eqb-true (head_unit by.one) unit mine.1) other by.named

      pub layers_in_order : IsLayered program
      layers_in_order = keys_in_order program key units
          (sym (length-map program.units plain_unit) ∙ ap length units_are)
          lower 1 layer_of_unit (greatest_layer of_name)
          (λ unit x at. omega (arith, each_most 0 of_name x.name))
          (ap (λ (p : PlainProgram). p.layers) is_grounded)
