-- Domains and names that were accepted are sound.
use Rattle.std.proofs.Common.{◌≡◌, ℕ, ◌+◌, ◌≤◌, ◌<◌, nat_lt, nat_le, Bool, true, false, cond, ◌&&◌}
use Rattle.std.proofs.Common.{List, [], ◌∷◌, ◌++◌, append-nil, append_assoc, length, filter_map}
use Rattle.std.proofs.Common.{Option, Some, None, refl, sym, ap₂, subst, ◌∙◌, arith}
use Rattle.std.specs.List.{list_all, cons_option, count_by}
use Rattle.std.specs.Str.{bytes_eq}
use Rattle.std.proofs.lemmas.Bool.Decides.{nat_tests}
use Rattle.std.proofs.lemmas.List.{length-map}
use Rattle.std.proofs.lemmas.List.Sums.{sum_by-append}
use Rattle.std.proofs.lemmas.List.Quantifiers.{position-Some}
use Rattle.rt_base.specs.Kinds.{is_name, is_constant}
use Rattle.ground_types.specs.Sound.{is_distinct, are_constants}
use Rattle.ground_types.specs.declared.program.Domain.{Domain}
use Rattle.ground_types.specs.declared.program.NameKind.{NameKind}
use Rattle.ground_types.specs.declared.program.NameKind.TheVariants as name_kind
use Rattle.rule_forms.specs.declared.form.Decl.{Decl}
use Rattle.rule_forms.specs.Forms.{PlainForm, PlainStatement, Domain as DomainForm, Input, Simple}
use Rattle.rule_forms.specs.Forms.{Static, Derived}
use Rattle.rule_forms.specs.Sound.{AllOf, SomeOf, IsName, IsConstant, IsSoundForm}
use Rattle.ground_types.specs.Words.{place_in, domain_words}
use Rattle.domain_decl.specs.Contents.{domain_in, domains_of, declared_name, name_in, names_of}
use Rattle.domain_decl.specs.Declarations.{is_domain, declaration_fault}
use Rattle.decl_known.proofs.Anys.{three}
use Rattle.decl_known.proofs.Gathering.{option_length}
use Rattle.decl_known.specs.Sound.{is_sound_domain, is_sound_name, has_sound_values}
use Rattle.domain_decl.proofs.Declaring.{count_more}
use Rattle.domain_decl.proofs.Passed.{AllPass, Passed, passed}

-- ---- tests

pub constants_pass : (words : List (List ℕ)) → AllOf IsConstant words → list_all is_constant words
    ≡ true
constants_pass [] h = refl
constants_pass (w ∷ ws) h = ap₂ ◌&&◌ h.0 (constants_pass ws h.1)

some_constants : (words : List (List ℕ)) → SomeOf IsConstant words
    → (list_all is_constant words ≡ true) × (nat_le 1 (length words) ≡ true)
some_constants [] h = absurd h
some_constants (w ∷ ws) h = (ap₂ ◌&&◌ h.0 (constants_pass ws h.1), grind (arith, nat_tests))

not_above : (a b : ℕ) → nat_lt a b ≡ false → nat_le b a ≡ true
not_above a b h = grind (arith, nat_tests)

four : (a b c d : Bool) → a ≡ true → b ≡ true → c ≡ true → d ≡ true → (a && b && c && d) ≡ true
four a b c d x y z w = rw (x, y, z, w) refl

list_all-option : {X : Type 0} (p : X → Bool) (o : Option X) (xs : List X)
    → list_all p (cons_option o []) ≡ true → list_all p xs ≡ true → list_all p (cons_option o xs)
    ≡ true
list_all-option p None xs h k = k
list_all-option p (Some x) xs h k = ap₂ ◌&&◌ (first_true (p x) true h) k
  where
    first_true : (a b : Bool) → (a && b) ≡ true → a ≡ true
    first_true true b e = refl
    first_true false b e = e

-- ---- domains

domain_sound : (before : List PlainStatement) (form : PlainForm) → Passed before form
    → IsSoundForm form → list_all is_sound_domain (cons_option (domain_in form) []) ≡ true
domain_sound before (DomainForm name entities) h s =
    ap₂ ◌&&◌ (three (is_name name) (are_constants entities) (nat_le (length entities) 4096) s.0
    (ap₂ ◌&&◌ (constants_pass entities s.1) h.distinct) (not_above 4096 (length entities)
    h.members)) (refl {a = true})
domain_sound before form h s = refl

pub domains_sound : (all before ss : List PlainStatement) → AllPass (declaration_fault all) before
    ss → AllOf (λ (s : PlainStatement). IsSoundForm s.form) ss
    → list_all is_sound_domain (domains_of ss) ≡ true
domains_sound all before [] h s = refl
domains_sound all before (x ∷ xs) h s =
    list_all-option is_sound_domain (domain_in x.form) (domains_of xs) (domain_sound before x.form
    (passed all before x.form h.0) s.0) (domains_sound all (before ++ x ∷ []) xs h.1 s.1)

-- ---- at most 64 of them

room_for : (d : Bool) (n : ℕ) → (d && nat_le 64 n) ≡ false → n ≤ 64 → n + cond d 1 0 ≤ 64
room_for true n h k = grind (arith, nat_tests)
room_for false n h k = omega arith

few_domains : (all before ss : List PlainStatement) → AllPass (declaration_fault all) before ss
    → count_by (λ s. is_domain s.form) before ≤ 64 → count_by (λ s. is_domain s.form)
    (before ++ ss) ≤ 64
few_domains all before [] h k = subst (λ l. count_by (λ s. is_domain s.form) l ≤ 64)
    (sym (append-nil before)) k
few_domains all before (x ∷ xs) h k =
    let next : count_by (λ s. is_domain s.form) (before ++ x ∷ []) ≤ 64 =
    subst (λ n. n ≤ 64) (sym (count_more before x)) (room_for (is_domain x.form)
    (count_by (λ s. is_domain s.form) before) (passed all before x.form h.0).room k) in
    subst (λ l. count_by (λ s. is_domain s.form) l ≤ 64) (append_assoc before (x ∷ []) xs)
    (few_domains all (before ++ x ∷ []) xs h.1 next)

one_domain : (form : PlainForm) → length (cons_option (domain_in form) []) ≡ cond (is_domain form)
    1 0
one_domain (DomainForm name entities) = refl
one_domain form = refl

count_domains : (ss : List PlainStatement) → length (domains_of ss)
    ≡ count_by (λ s. is_domain s.form) ss
count_domains [] = refl
count_domains (s ∷ ss) =
    let first : cond (is_domain s.form) 1 0 ≡ count_by (λ s. is_domain s.form) (s ∷ []) =
    omega arith in
    option_length (domain_in s.form) (domains_of ss) ∙ ap₂ ◌+◌ (one_domain s.form ∙ first)
    (count_domains ss)
    ∙ sym (sum_by-append (λ s. cond (is_domain s.form) 1 0) (s ∷ []) ss)

pub domains_most : (all : List PlainStatement) → AllPass (declaration_fault all) [] all
    → length (domains_of all) ≤ 64
domains_most all h = subst (λ n. n ≤ 64) (sym (count_domains all))
    (few_domains all [] all h (omega arith))

-- ---- names

one_less : {X Y : Type 0} (o : Option Y) (ys : List Y) (x : X) (xs : List X)
    → length ys ≤ length xs → length (cons_option o ys) ≤ length (x ∷ xs)
one_less None ys x xs h = omega arith
one_less (Some y) ys x xs h = omega arith

at_most : {X Y : Type 0} (h : X → Option Y) (xs : List X) → length (filter_map h xs) ≤ length xs
at_most h [] = omega arith
at_most h (x ∷ xs) = one_less (h x) (filter_map h xs) x xs (at_most h xs)

module _ (domains : List Domain) where
  place_within : (word : List ℕ) (o : Option ℕ) → place_in (domain_words domains) word ≡ o
      → list_all (λ d. nat_lt d (length domains)) (cons_option o []) ≡ true
  place_within word None e = refl
  place_within word (Some d) e =
      let at : d < length (domain_words domains) =
      (position-Some (λ other. bytes_eq other word) (domain_words domains) d [] e).0 in
      let within : d < length domains = subst (λ n. d < n) (length-map domains (λ x. x.word)) at in
      grind (arith, nat_tests)

  places_within : (args : List (List ℕ)) → list_all (λ d. nat_lt d (length domains))
      (filter_map (place_in (domain_words domains)) args) ≡ true
  places_within [] = refl
  places_within (a ∷ args) =
      list_all-option (λ d. nat_lt d (length domains)) (place_in (domain_words domains) a)
      (filter_map (place_in (domain_words domains)) args)
      (place_within a (place_in (domain_words domains) a) refl) (places_within args)

  few_args : (args : List (List ℕ)) → nat_lt 3 (length args) ≡ false
      → nat_le (length (filter_map (place_in (domain_words domains)) args)) 3 ≡ true
  few_args args h = let k = at_most (place_in (domain_words domains)) args in
      grind (arith, nat_tests)

  one_name : (kind : NameKind) (decl : Decl) (values : List (List ℕ)) (line : ℕ) → IsName decl.name
      → nat_lt 3 (length decl.args) ≡ false → has_sound_values kind values ≡ true
      → list_all (is_sound_name (length domains)) (declared_name (domain_words domains) kind decl
      values line ∷ []) ≡ true
  one_name kind decl values line name args sound =
      ap₂ ◌&&◌ (four (is_name decl.name)
      (nat_le (length (filter_map (place_in (domain_words domains)) decl.args)) 3)
      (list_all (λ d. nat_lt d (length domains)) (filter_map (place_in (domain_words domains))
      decl.args)) (has_sound_values kind values)
      name (few_args decl.args args) (places_within decl.args) sound) (refl {a = true})

  values_sound : (values : List (List ℕ)) → SomeOf IsConstant values → is_distinct values ≡ true
      → nat_lt 64 (length values) ≡ false
      → (are_constants values && nat_le 1 (length values) && nat_le (length values) 64) ≡ true
  values_sound values s d n =
      let some = some_constants values s in
      three (are_constants values) (nat_le 1 (length values)) (nat_le (length values) 64)
      (ap₂ ◌&&◌ some.0 d) some.1 (not_above 64 (length values) n)

  name_sound : (before : List PlainStatement) (form : PlainForm) (line : ℕ) → Passed before form
      → IsSoundForm form
      → list_all (is_sound_name (length domains))
      (cons_option (name_in (domain_words domains) form line) []) ≡ true
  name_sound before (Input decl) line h s = one_name name_kind.Input decl [] line s.0 h.arguments
      refl
  name_sound before (Simple decl values) line h s = one_name name_kind.Simple decl values line
      s.0.0 h.arguments (values_sound values s.1 h.distinct h.members)
  name_sound before (Static decl values) line h s = one_name name_kind.Static decl values line
      s.0.0 h.arguments (values_sound values s.1 h.distinct h.members)
  name_sound before (Derived decl) line h s = one_name name_kind.Derived decl [] line s.0
      h.arguments refl
  name_sound before form line h s = refl

  pub names_sound : (all before ss : List PlainStatement) → AllPass (declaration_fault all) before
      ss → AllOf (λ (s : PlainStatement). IsSoundForm s.form) ss
      → list_all (is_sound_name (length domains)) (names_of (domain_words domains) ss) ≡ true
  names_sound all before [] h s = refl
  names_sound all before (x ∷ xs) h s =
      list_all-option (is_sound_name (length domains)) (name_in (domain_words domains) x.form
      x.line) (names_of (domain_words domains) xs)
      (name_sound before x.form x.line (passed all before x.form h.0) s.0)
      (names_sound all (before ++ x ∷ []) xs h.1 s.1)

  pub names_most : (ss : List PlainStatement) → length (names_of (domain_words domains) ss)
      ≤ length ss
  names_most ss = at_most (λ s. name_in (domain_words domains) s.form s.line) ss
