-- A grounded program has the domains of its description, and its names but for their numbers.
use Rattle.std.proofs.Common.{◌≡◌, ℕ, ◌+◌, nat_lt, nat_le, Bool, true, false, ◌&&◌, ◌==◌, List, []}
use Rattle.std.proofs.Common.{◌∷◌, ◌++◌, length, map, refl, ap, ap₂, ◌∙◌, arith, if◌then◌else◌}
use Rattle.std.specs.List.{list_all}
use Rattle.std.proofs.lemmas.Bool.{eqb-true, and_parts}
use Rattle.std.proofs.lemmas.List.Folds.{list_all-append, list_all-map}
use Rattle.rt_base.specs.Kinds.{is_name}
use Rattle.ground_types.specs.Sound.{is_input, arguments_of, is_distinct, are_constants}
use Rattle.ground_types.specs.Sound.{declared_words}
use Rattle.ground_types.specs.declared.program.Domain.{Domain}
use Rattle.ground_types.specs.declared.program.Name.{Name}
use Rattle.ground_types.specs.declared.program.NameKind.{NameKind}
use Rattle.ground_types.specs.declared.program.NameKind.TheVariants as name_kind
use Rattle.ground_types.specs.declared.program.Program.{Program}
use Rattle.decl_known.specs.declared.checked.Checked.{Checked}
use Rattle.decl_known.specs.Checked.{plain_checked}
use Rattle.ground_types.specs.Words.{domain_words, name_words}
use Rattle.decl_known.specs.Sound.{is_sound_domain, is_sound_name, has_sound_values, IsSound}
use Rattle.ground_names.specs.Numbers.{with_first, numbered}
use Rattle.ground_rules.specs.Grounded.{PlainProgram, plain_program, grounded}

-- ---- names are numbered, and else left as they are

-- a test that does not look at a name's number
pub all_numbered : (domains : List Domain) (p : Name → Bool)
    → ((n : ℕ) (name : Name) → p (with_first n name) ≡ p name)
    → (names : List Name) (event unit : ℕ) → list_all p (numbered domains event unit names)
    ≡ list_all p names
all_numbered domains p unnumbered [] event unit = refl
all_numbered domains p unnumbered (name ∷ names) event unit =
    let count = length (arguments_of domains name) in
    ap₂ ◌&&◌ (unnumbered (if is_input name.kind then event else unit) name)
    (all_numbered domains p unnumbered names (if is_input name.kind then event + count else event)
    (if is_input name.kind then unit else unit + count))

pub numbered_words : (domains : List Domain) (names : List Name) (event unit : ℕ)
    → map (λ name. name.word) (numbered domains event unit names) ≡ name_words names
numbered_words domains [] event unit = refl
numbered_words domains (name ∷ names) event unit =
    let count = length (arguments_of domains name) in
    ap (λ ws. name.word ∷ ws)
    (numbered_words domains names (if is_input name.kind then event + count else event)
    (if is_input name.kind then unit else unit + count))

-- ---- tests

pub list_all-weaker : {X : Type 0} (p q : X → Bool) → ((x : X) → p x ≡ true → q x ≡ true)
    → (xs : List X) → list_all p xs ≡ true → list_all q xs ≡ true
list_all-weaker p q weaker [] h = refl
list_all-weaker p q weaker (x ∷ xs) h =
    let both = and_parts (p x) (list_all p xs) h in
    ap₂ ◌&&◌ (weaker x both.0) (list_all-weaker p q weaker xs both.1)

no_values : (values : List (List ℕ)) → (length values == 0) ≡ true → are_constants values ≡ true
no_values [] h = refl
no_values (v ∷ vs) h = let e = eqb-true (length (v ∷ vs)) 0 h in absurd (omega arith)

first_of_four : (a b c d : Bool) → (a && b && c && d) ≡ true → a ≡ true
first_of_four true b c d e = refl
first_of_four false b c d e = e

third_of_four : (a b c d : Bool) → (a && b && c && d) ≡ true → c ≡ true
third_of_four a b true d e = refl
third_of_four true true false d e = e
third_of_four true false false d e = e
third_of_four false b false d e = e

fourth_of_four : (a b c d : Bool) → (a && b && c && d) ≡ true → d ≡ true
fourth_of_four a b c true e = refl
fourth_of_four true true true false e = e
fourth_of_four true true false false e = e
fourth_of_four true false c false e = e
fourth_of_four false b c false e = e

values_are_constants : (kind : NameKind) (values : List (List ℕ)) → has_sound_values kind values
    ≡ true → are_constants values ≡ true
values_are_constants name_kind.Input values h = no_values values h
values_are_constants name_kind.Simple values h = (and_parts (are_constants values)
    (nat_le 1 (length values)) (and_parts _ (nat_le (length values) 64) h).0).0
values_are_constants name_kind.Static values h = (and_parts (are_constants values)
    (nat_le 1 (length values)) (and_parts _ (nat_le (length values) 64) h).0).0
values_are_constants name_kind.Derived values h = no_values values h

module _ (domains : ℕ) (name : Name) (h : is_sound_name domains name ≡ true) where
  word_sound : is_name name.word ≡ true
  word_sound =
      first_of_four (is_name name.word) (nat_le (length name.args) 3)
      (list_all (λ d. nat_lt d domains) name.args) (has_sound_values name.kind name.values) h

  args_sound : list_all (λ d. nat_lt d domains) name.args ≡ true
  args_sound =
      third_of_four (is_name name.word) (nat_le (length name.args) 3)
      (list_all (λ d. nat_lt d domains) name.args) (has_sound_values name.kind name.values) h

  values_sound : are_constants name.values ≡ true
  values_sound =
      values_are_constants name.kind name.values
      (fourth_of_four (is_name name.word) (nat_le (length name.args) 3)
      (list_all (λ d. nat_lt d domains) name.args) (has_sound_values name.kind name.values) h)

module _ (domain : Domain) (h : is_sound_domain domain ≡ true) where
  both_sound : (is_name domain.word ≡ true) × (are_constants domain.entities ≡ true)
  both_sound = and_parts (is_name domain.word) (are_constants domain.entities)
      (and_parts _ (nat_le (length domain.entities) 4096) h).0

  domain_word_sound : is_name domain.word ≡ true
  domain_word_sound = both_sound.0

  entities_sound : are_constants domain.entities ≡ true
  entities_sound = both_sound.1

-- ---- the words of a grounded program

module _ (checked : Checked) (of_name : List ℕ) (program : Program) (made : plain_program program
    ≡ grounded (plain_checked checked) of_name) where
  pub domains_are : program.domains ≡ checked.domains
  domains_are = ap (λ (p : PlainProgram). p.domains) made

  pub names_are : program.names ≡ numbered checked.domains 0 0 checked.names
  names_are = ap (λ (p : PlainProgram). p.names) made

  module _ (sound : IsSound checked) where
    pub domain_numbers : list_all (λ name.
        list_all (λ domain. nat_lt domain (length program.domains)) name.args) program.names ≡ true
    domain_numbers =
        ap₂ (λ (ds : List Domain) (ns : List Name).
        list_all (λ name. list_all (λ domain. nat_lt domain (length ds)) name.args) ns)
        domains_are names_are
        ∙ all_numbered checked.domains (λ name.
        list_all (λ domain. nat_lt domain (length checked.domains)) name.args) (λ n name. refl)
        checked.names 0 0
        ∙ list_all-weaker (is_sound_name (length checked.domains)) _
        (args_sound (length checked.domains)) checked.names sound.names

    words_are : declared_words program ≡ domain_words checked.domains ++ name_words checked.names
    words_are = ap₂ ◌++◌ (ap domain_words domains_are) (ap (map (λ (name : Name). name.word))
        names_are ∙ numbered_words checked.domains checked.names 0 0)

    domain_names : list_all is_name (domain_words checked.domains) ≡ true
    domain_names = list_all-map is_name (λ (domain : Domain). domain.word) checked.domains
        ∙ list_all-weaker is_sound_domain _ domain_word_sound checked.domains sound.domains

    name_names : list_all is_name (name_words checked.names) ≡ true
    name_names =
        list_all-map is_name (λ (name : Name). name.word) checked.names
        ∙ list_all-weaker (is_sound_name (length checked.domains)) _
        (word_sound (length checked.domains)) checked.names sound.names

    pub words : (list_all is_name (declared_words program) && is_distinct (declared_words program))
        ≡ true
    words =
        ap (λ ws. list_all is_name ws && is_distinct ws) words_are
        ∙ ap₂ ◌&&◌ (list_all-append is_name (domain_words checked.domains)
        (name_words checked.names) ∙ ap₂ ◌&&◌ domain_names name_names) sound.distinct

    pub entities : list_all (λ domain. are_constants domain.entities) program.domains ≡ true
    entities =
        ap (list_all (λ (domain : Domain). are_constants domain.entities)) domains_are
        ∙ list_all-weaker is_sound_domain _ entities_sound checked.domains sound.domains

    pub values : list_all (λ name. are_constants name.values) program.names ≡ true
    values =
        ap (list_all (λ (name : Name). are_constants name.values)) names_are
        ∙ all_numbered checked.domains (λ name. are_constants name.values) (λ n name. refl)
        checked.names 0 0
        ∙ list_all-weaker (is_sound_name (length checked.domains)) _
        (values_sound (length checked.domains)) checked.names sound.names
