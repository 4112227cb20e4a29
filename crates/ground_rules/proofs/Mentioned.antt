-- What an instance of a statement of a checked description mentions is there.
use Rattle.std.proofs.Common.{◌≡◌, ℕ, ◌+◌, ◌<◌, true, false, true≢false, not, ◌==◌, List, []}
use Rattle.std.proofs.Common.{◌∷◌, map, flat_map, filter_map, length, get_or, zip, slice_get}
use Rattle.std.proofs.Common.{option_map, Option, Some, None, refl, sym, ap, subst, ◌∙◌, arith}
use Rattle.std.proofs.lemmas.Bool.{or_parts}
use Rattle.std.specs.List.{AllZip, list_any}
use Rattle.std.proofs.lemmas.Bool.Decides.{nat_tests}
use Rattle.std.proofs.lemmas.List.{length-map}
use Rattle.std.proofs.lemmas.List.Elements.{AllZip-get_or, length_all_zip}
use Rattle.std.proofs.lemmas.Option.{none-some, slice_get-map, get_or_from_slice_get}
use Rattle.ground_types.specs.Sound.{arguments_of, domain_sizes, entity_count}
use Rattle.ground_types.specs.declared.program.Domain.{Domain}
use Rattle.ground_types.specs.declared.program.Name.{Name}
use Rattle.rule_forms.specs.declared.form.Term.{Term}
use Rattle.rule_forms.specs.declared.form.Term.TheVariants as term
use Rattle.rule_forms.specs.declared.syntax.Statement.{Statement}
use Rattle.rule_forms.specs.Forms.{PlainForm, plain, plain_form, is_rule}
use Rattle.rule_forms.specs.Sound.{AllOf, IsSoundForm}
use Rattle.decl_known.specs.declared.checked.Checked.{Checked}
use Rattle.ground_types.specs.Words.{has, place_in, name_words, declaration, entities_of}
use Rattle.ground_types.specs.Words.{entities_in}
use Rattle.decl_known.specs.Mentions.{Mention, fits, mentions, variable_in}
use Rattle.decl_known.specs.Rules.{lacks_trigger, is_of_wrong_kind, has_wrong_arity}
use Rattle.decl_known.specs.Rules.{has_undeclared_word, differs_in_kind}
use Rattle.decl_known.specs.Rules.{differs_in_arity, differs_in_word, is_foreign, lacks_value}
use Rattle.decl_known.specs.Rules.{variable_at, places_by, rule_fault}
use Rattle.decl_known.specs.Checked.{plain_checked}
use Rattle.decl_known.proofs.Faultless.{Passes, passes}
use Rattle.decl_known.specs.Sound.{IsSound as IsSoundChecked, IsSoundRule}
use Rattle.word_table.proofs.LookUps.{declaration_by_place, no_declaration_by_place}
use Rattle.ground_names.specs.Numbers.{numbered}
use Rattle.ground_rules.specs.Assignments.{Clause, Instance, variables_of, domain_of}
use Rattle.ground_rules.specs.Assignments.{variable_sizes, assignments, entity_at, entity_of}
use Rattle.ground_rules.specs.Assignments.{is_permitted, instances}
use Rattle.ground_rules.specs.Atoms.{or_zero, ground_term, number_by, ground_atom, ground_args}
use Rattle.ground_rules.specs.Atoms.{value_in}
use Rattle.ground_rules.specs.Grounded.{clauses_of, numbered_names, clauses}
use Rattle.ground_rules.proofs.Members.{member_of, all_members, all_weaker, all_map, all_flat_map}
use Rattle.ground_rules.proofs.Members.{all_filter, each_of_flat_map, none_pass, not_false}
use Rattle.ground_rules.proofs.Places.{word_place, argument_lists_below, arguments_place}
use Rattle.ground_rules.proofs.Renumbered.{same_kinds, same_arities, same_undeclared, same_clash}
use Rattle.ground_rules.proofs.VariablePlaces.{AreVariables, variables_among, domain_at_places}

-- what an atom of an instance names: a name that is declared, of a kind that fits, with arguments
-- of it, and with one of its values where the atom has a value
pub record Grounds (domains : List Domain) (names : List Name) (i : Instance) (m : Mention) : Type
    0 where
  pub place : ℕ
  pub name : Name
  pub at : slice_get names place ≡ Some name
  pub placed : place_in (name_words names) m.atom.name ≡ Some place
  pub found : declaration names m.atom.name ≡ Some name
  pub kind : fits m.role name.kind ≡ true
  pub number : ℕ
  pub inside : number < length (arguments_of domains name)
  pub args : slice_get (arguments_of domains name) number ≡ Some (ground_args i name m.atom.args)
  pub atom : ground_atom i m.atom ≡ name.first + number
  pub value : (w : List ℕ) → m.value ≡ Some w → value_in w (Some name) < length name.values

-- an instance of a rule of a checked description
pub record IsGround (domains : List Domain) (names : List Name) (i : Instance) : Type 0 where
  pub rule : is_rule i.clause.form ≡ true
  pub form : IsSoundForm i.clause.form
  pub trigger : lacks_trigger i.clause.form ≡ false
  pub domains_are : i.clause.domains ≡ domains
  pub names_are : i.clause.names ≡ names
  pub mentioned : AllOf (Grounds domains names i) (mentions i.clause.form)

-- ---- what no test of a rule says

-- what a statement that breaks no rule passes, it passes over the numbered names too
numbered_passes : (domains : List Domain) (names : List Name) (form : PlainForm)
    → Passes domains names form → Passes domains (numbered domains 0 0 names) form
numbered_passes domains names form h = record {
  trigger = h.trigger;
  kinds = same_kinds domains 0 0 names (mentions form) ∙ h.kinds;
  arities = same_arities domains 0 0 names (mentions form) ∙ h.arities;
  words = same_undeclared domains 0 0 names (mentions form) ∙ h.words;
  clashes = same_clash domains 0 0 names form ∙ h.clashes;
}

-- ---- what an atom of an instance names

same_length : (n m : ℕ) → not (n == m) ≡ false → n ≡ m
same_length n m e = grind (arith, nat_tests)

entities_counted : (o : Option Domain) → length (entities_in o) ≡ entity_count o
entities_counted None = refl
entities_counted (Some domain) = refl

placed_by : (names : List Name) (word : List ℕ) (name : Name) → declaration names word ≡ Some name
    → (o : Option ℕ) → place_in (name_words names) word ≡ o
    → (place : ℕ) × (place_in (name_words names) word ≡ Some place)
    × (slice_get names place ≡ Some name)
placed_by names word name e None f = absurd
    (none-some name (sym (no_declaration_by_place names word f) ∙ e))
placed_by names word name e (Some place) f =
    (place, f, sym (declaration_by_place names word place f) ∙ e)

value_inside : (name : Name) (word : List ℕ) → lacks_value name (Some word) ≡ false
    → value_in word (Some name) < length name.values
value_inside name word e =
    let found = word_place name.values word (not_false (has name.values word) e) in
    subst (λ n. n < length name.values) (sym (ap or_zero found.is)) found.inside

module _ (domains : List Domain) (names : List Name) (form : PlainForm) where
  abbrev clause : Clause
  clause = record { domains = domains; names = names; form = form }

  module _ (assignment : List ℕ) (inside : AllZip ◌<◌ assignment (variable_sizes clause)) where
    abbrev i : Instance
    i = record { clause = clause; assignment = assignment }

    entity_inside : (word : List ℕ) → has (variables_of form) word ≡ true
        → entity_of i word < entity_count (slice_get domains (domain_of clause word))
    entity_inside word e =
        let found = word_place (variables_of form) word e in
        let size : ℕ → ℕ = λ d. entity_count (slice_get domains d) in
        let long : length assignment ≡ length (variables_of form) =
        length_all_zip ◌<◌ assignment (variable_sizes clause) inside
        ∙ length-map (map (domain_of clause) (variables_of form)) size
        ∙ length-map (variables_of form) (domain_of clause) in
        let at : slice_get (variable_sizes clause) found.place
        ≡ Some (size (domain_of clause word)) =
        slice_get-map size (map (domain_of clause) (variables_of form)) found.place
        ∙ ap (option_map size) (slice_get-map (domain_of clause) (variables_of form) found.place
        ∙ ap (option_map (domain_of clause)) found.at) in
        let lt : get_or assignment found.place 0 < get_or (variable_sizes clause) found.place 0 =
        AllZip-get_or ◌<◌ assignment (variable_sizes clause) found.place 0 0 inside
        (subst (λ n. found.place < n) (sym long) found.inside) in
        subst (λ n. n < entity_count (slice_get domains (domain_of clause word)))
        (sym (ap (entity_at assignment) found.is))
        (subst (λ n. get_or assignment found.place 0 < n)
        (get_or_from_slice_get (variable_sizes clause) found.place (size (domain_of clause word))
        0 at) lt)

    constant_inside : (word : List ℕ) (d : ℕ) → is_foreign domains (term.Entity word) d ≡ false
        → ground_term i (term.Entity word) d < entity_count (slice_get domains d)
    constant_inside word d e =
        let found = word_place (entities_of domains d) word
        (not_false (has (entities_of domains d) word) e) in
        subst (λ n. n < entity_count (slice_get domains d)) (sym (ap or_zero found.is))
        (subst (λ n. found.place < n) (entities_counted (slice_get domains d)) found.inside)

    args_inside : (terms : List Term) (ds : List ℕ) → length terms ≡ length ds
        → list_any (λ (place : Term × ℕ). is_foreign domains place.0 place.1) (zip terms ds) ≡ false
        → AllOf (λ (place : List ℕ × ℕ). domain_of clause place.0 ≡ place.1)
        (filter_map (λ (place : Term × ℕ). variable_at place.0 place.1) (zip terms ds))
        → AllOf (λ word. has (variables_of form) word ≡ true) (filter_map variable_in terms)
        → AllZip ◌<◌ (map (λ (place : Term × ℕ). ground_term i place.0 place.1) (zip terms ds))
        (domain_sizes domains ds)
    args_inside [] [] long known at among = tt
    args_inside [] (d ∷ ds) long known at among = absurd (omega arith)
    args_inside (t ∷ ts) [] long known at among = absurd (omega arith)
    args_inside (term.Entity word ∷ ts) (d ∷ ds) long known at among = (
      constant_inside word d (or_parts (is_foreign domains (term.Entity word) d) _ known).0,
      args_inside ts ds (omega arith) (or_parts (is_foreign domains (term.Entity word) d) _
          known).1 at among,
    )
    args_inside (term.Variable word ∷ ts) (d ∷ ds) long known at among = (
      subst (λ e. entity_of i word < entity_count (slice_get domains e)) at.0
          (entity_inside word among.0),
      args_inside ts ds (omega arith) known at.1 among.1,
    )

    grounds_by : (m : Mention) (o : Option Name) → declaration names m.atom.name ≡ o
        → differs_in_kind m.role o ≡ false → differs_in_arity m.atom.args o ≡ false
        → differs_in_word domains m o ≡ false
        → AllOf (λ (place : List ℕ × ℕ). domain_of clause place.0 ≡ place.1)
        (places_by m.atom.args o) → AreVariables form m → Grounds domains names i m
    grounds_by m None e kind arity words at among = absurd (true≢false kind)
    grounds_by m (Some name) e kind arity words at among =
        let placed = placed_by names m.atom.name name e (place_in (name_words names) m.atom.name)
        refl in
        let parts = or_parts (lacks_value name m.value)
        (list_any (λ (place : Term × ℕ). is_foreign domains place.0 place.1)
        (zip m.atom.args name.args)) words in
        let valued = parts.0 in
        let known = parts.1 in
        let long = same_length (length m.atom.args) (length name.args) arity in
        let found = arguments_place (ground_args i name m.atom.args)
        (domain_sizes domains name.args) (args_inside m.atom.args name.args long known at among)
        in
        record {
          place = placed.0;
          name = name;
          at = placed.2;
          placed = placed.1;
          found = e;
          kind = not_false (fits m.role name.kind) kind;
          number = found.number;
          inside = found.inside;
          args = found.at;
          atom = ap (number_by i m.atom) e
              ∙ ap (λ o. or_zero (option_map (λ place. name.first + place) o)) found.is;
          value = λ word f. value_inside name word (sym (ap (lacks_value name) f) ∙ valued);
        }

    all_ground : Passes domains names form → AllOf (Grounds domains names i) (mentions form)
    all_ground h =
        all_members (Grounds domains names i) (mentions form)
        (λ m among. grounds_by m (declaration names m.atom.name) refl
        (member_of (λ m. is_of_wrong_kind names m ≡ false) (mentions form)
        (none_pass (is_of_wrong_kind names) (mentions form) h.kinds) m among)
        (member_of (λ m. has_wrong_arity names m ≡ false) (mentions form)
        (none_pass (has_wrong_arity names) (mentions form) h.arities) m among)
        (member_of (λ m. has_undeclared_word domains names m ≡ false) (mentions form)
        (none_pass (has_undeclared_word domains names) (mentions form) h.words) m among)
        (member_of (λ (m : Mention). AllOf (λ (place : List ℕ × ℕ). domain_of clause place.0
        ≡ place.1) (places_by m.atom.args (declaration names m.atom.name))) (mentions form)
        (each_of_flat_map (λ (place : List ℕ × ℕ). domain_of clause place.0 ≡ place.1)
        (λ (m : Mention). places_by m.atom.args (declaration names m.atom.name)) (mentions form)
        (domain_at_places clause h.clashes)) m among)
        (member_of (AreVariables form) (mentions form) (variables_among form) m among))

-- ---- all instances of a checked description

-- each assignment within the sizes of a clause gives one
abbrev pub AreGround : List Domain → List Name → Clause → Type 0
AreGround domains names clause =
    (assignment : List ℕ) → AllZip ◌<◌ assignment (variable_sizes clause)
    → IsGround domains names (record { clause = clause; assignment = assignment })

module _ (domains : List Domain) (declared : List Name) where
  abbrev these : List Name
  these = numbered domains 0 0 declared

  rule_ground : (form : PlainForm) → is_rule form ≡ true → IsSoundForm form
      → rule_fault domains declared form ≡ None
      → AreGround domains these (record { domains = domains; names = these; form = form })
  rule_ground form rule sound fault =
      let pass = numbered_passes domains declared form (passes domains declared form fault) in
      λ assignment inside. record {
        rule = rule;
        form = sound;
        trigger = pass.trigger;
        domains_are = refl;
        names_are = refl;
        mentioned = all_ground domains these form assignment inside pass;
      }

  rules_ground : (rules : List Statement) → AllOf (IsSoundRule domains declared) rules
      → AllOf (AreGround domains these) (clauses_of domains these (map plain rules))
  rules_ground [] all = tt
  rules_ground (r ∷ rs) all = (
    rule_ground (plain_form r.form) all.0.0 all.0.1 all.0.2,
    rules_ground rs all.1,
  )

module _ (domains : List Domain) (names : List Name) where
  clause_instances : (clause : Clause) → AreGround domains names clause
      → AllOf (IsGround domains names) (instances clause)
  clause_instances clause ground =
      all_filter (IsGround domains names) is_permitted
      (map (λ assignment. record { clause = clause; assignment = assignment })
      (assignments clause))
      (all_map (IsGround domains names) (λ assignment. record {
        clause = clause;
        assignment =
            assignment;
      }) (assignments clause)
      (all_weaker (λ assignment. AllZip ◌<◌ assignment (variable_sizes clause)) (λ assignment.
      IsGround domains names (record { clause = clause; assignment = assignment })) ground
      (assignments clause) (argument_lists_below (variable_sizes clause))))

  pub all_instances : (all : List Clause) → AllOf (AreGround domains names) all
      → AllOf (IsGround domains names) (flat_map instances all)
  all_instances all ground = all_flat_map (IsGround domains names) instances all
      (all_weaker (AreGround domains names) (λ clause. AllOf (IsGround domains names)
      (instances clause)) clause_instances all ground)

module _ (checked : Checked) (sound : IsSoundChecked checked) where
  pub assigned : AllOf (AreGround checked.domains (numbered_names (plain_checked checked)))
      (clauses (plain_checked checked))
  assigned = rules_ground checked.domains checked.names checked.rules sound.rules

  -- each instance of a checked description is of this kind
  pub instances_ground : AllOf (IsGround checked.domains (numbered_names (plain_checked checked)))
      (flat_map instances (clauses (plain_checked checked)))
  instances_ground = all_instances checked.domains (numbered_names (plain_checked checked))
      (clauses (plain_checked checked)) assigned
