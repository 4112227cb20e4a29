-- Names that sound rules define are declared, and are no inputs.
use Rattle.std.proofs.Common.{◌≡◌, ℕ, Bool, true, false, true≢false, not, ◌||◌, List, [], ◌∷◌, ◌++◌}
use Rattle.std.proofs.Common.{map, flat_map, slice_get, Option, Some, None, refl, sym, ap, subst}
use Rattle.std.proofs.Common.{◌∙◌, if◌then◌else◌}
use Rattle.std.specs.List.{list_any}
use Rattle.std.specs.Str.{bytes_eq}
use Rattle.ground_types.specs.declared.program.Domain.{Domain}
use Rattle.ground_types.specs.declared.program.Name.{Name}
use Rattle.ground_types.specs.declared.program.NameKind.{NameKind}
use Rattle.ground_types.specs.declared.program.NameKind.TheVariants as name_kind
use Rattle.ground_types.specs.Sound.{is_input}
use Rattle.rule_forms.specs.declared.syntax.Statement.{Statement}
use Rattle.rule_forms.specs.Forms.{PlainForm, plain, plain_form, Window, Step, From, Queries}
use Rattle.rule_forms.specs.Forms.{Domain as DomainForm, Input, Simple, Static, Derived, Initially}
use Rattle.rule_forms.specs.Forms.{Initiated, Terminated, Happens, HoldsFor, conditions_of}
use Rattle.rule_forms.specs.Sound.{AllOf}
use Rattle.ground_types.specs.Words.{has, place_in, name_words}
use Rattle.decl_known.proofs.ComputedKinds.{simple_computed, static_computed, derived_computed}
use Rattle.decl_known.specs.Mentions.{SimpleFluent, StaticFluent, DerivedEvent, Mention, fits}
use Rattle.decl_known.specs.Mentions.{head_of, body_mentions, leaves_of}
use Rattle.decl_known.specs.Rules.{differs_in_kind, is_of_wrong_kind, rule_fault}
use Rattle.decl_known.proofs.Faultless.{passes}
use Rattle.decl_known.specs.Sound.{IsSoundRule}
use Rattle.word_table.proofs.LookUps.{declaration_by_place, no_declaration_by_place, same_word}
use Rattle.decl_known.specs.Occurrences.{defines, body_of, bodies_of, occurs}

-- the word is that of a declared name that is no input
pub record IsHead (names : List Name) (word : List ℕ) : Type 0 where
  pub place : ℕ
  pub name : Name
  pub found : place_in (name_words names) word ≡ Some place
  pub at : slice_get names place ≡ Some name
  pub computed : is_input name.kind ≡ false

-- a statement has no head, or one that is no input
pub data HasHead (form : PlainForm) : Type 0 where
  no_head : head_of form ≡ [] → HasHead form
  one_head : (m : Mention) → head_of form ≡ m ∷ [] → ((kind : NameKind) → fits m.role kind ≡ true
      → is_input kind ≡ false) → HasHead form

pub heads : (form : PlainForm) → HasHead form
heads (Window n) = no_head refl
heads (Step n) = no_head refl
heads (From n) = no_head refl
heads (Queries n) = no_head refl
heads (DomainForm name entities) = no_head refl
heads (Input decl) = no_head refl
heads (Simple decl values) = no_head refl
heads (Static decl values) = no_head refl
heads (Derived decl) = no_head refl
heads (Initially fv) = one_head _ refl simple_computed
heads (Initiated fv bodies) = one_head _ refl simple_computed
heads (Terminated fv bodies) = one_head _ refl simple_computed
heads (Happens atom bodies) = one_head _ refl derived_computed
heads (HoldsFor fv e) = one_head _ refl static_computed

or_left : (a b : Bool) → (a || b) ≡ false → a ≡ false
or_left true b e = e
or_left false b e = refl

or_none : (a : Bool) → (a || false) ≡ true → a ≡ true
or_none true e = refl
or_none false e = e

not_false : (a : Bool) → not a ≡ false → a ≡ true
not_false true e = refl
not_false false e = sym e

module _ (names : List Name) (m : Mention) (kinds : (kind : NameKind) → fits m.role kind ≡ true
    → is_input kind ≡ false) (right : is_of_wrong_kind names m ≡ false) where
  by_name : (i : ℕ) → place_in (name_words names) m.atom.name ≡ Some i → (o : Option Name)
      → slice_get names i ≡ o → IsHead names m.atom.name
  by_name i e None at =
      absurd (true≢false (ap (differs_in_kind m.role)
      (sym (declaration_by_place names m.atom.name i e ∙ at)) ∙ right))
  by_name i e (Some name) at = record {
    place = i;
    name = name;
    found = e;
    at = at;
    computed = kinds name.kind (not_false (fits m.role name.kind) (ap (differs_in_kind m.role)
        (sym (declaration_by_place names m.atom.name i e ∙ at)) ∙ right));
  }

  by_place : (o : Option ℕ) → place_in (name_words names) m.atom.name ≡ o → IsHead names m.atom.name
  by_place None e = absurd (true≢false (ap (differs_in_kind m.role)
      (sym (no_declaration_by_place names m.atom.name e)) ∙ right))
  by_place (Some i) e = by_name i e (slice_get names i) refl

defined : (domains : List Domain) (names : List Name) (form : PlainForm) (word : List ℕ)
    → rule_fault domains names form ≡ None → defines word form ≡ true → HasHead form
    → IsHead names word
defined domains names form word sound def (no_head e) =
    absurd (true≢false (sym def ∙ ap (list_any (λ m. bytes_eq m.atom.name word)) e))
defined domains names form word sound def (one_head m e kinds) =
    let same : m.atom.name ≡ word = same_word m.atom.name word (or_none (bytes_eq m.atom.name word)
    (sym (ap (list_any (λ k. bytes_eq k.atom.name word)) e) ∙ def)) in
    let behind = flat_map body_mentions (conditions_of form) ++ leaves_of form in
    let right : is_of_wrong_kind names m ≡ false =
    or_left (is_of_wrong_kind names m) (list_any (is_of_wrong_kind names) behind)
    (sym (ap (λ hs. list_any (is_of_wrong_kind names) (hs ++ behind)) e)
    ∙ (passes domains names form sound).kinds) in
    subst (IsHead names) same (by_place names m kinds right (place_in (name_words names)
    m.atom.name) refl)

-- a name in whose bodies something occurs is declared, and is no input
pub has_head : (domains : List Domain) (names : List Name) (rs : List Statement)
    → AllOf (IsSoundRule domains names) rs → (word other : List ℕ)
    → occurs (map plain rs) other word ≡ true → IsHead names word
has_head domains names [] sound word other o = absurd (true≢false (sym o))
has_head domains names (r ∷ rs) sound word other o = by (defines word (plain_form r.form)) refl
    (has_head domains names rs sound.1 word other)
  where
    by : (b : Bool) → defines word (plain_form r.form) ≡ b
        → (occurs (map plain rs) other word ≡ true → IsHead names word) → IsHead names word
    by true e rest = defined domains names (plain_form r.form) word sound.0.2 e
        (heads (plain_form r.form))
    by false e rest =
        rest (sym (ap (λ c. has ((if c then body_of (plain_form r.form) else []) ++ bodies_of
        (map plain rs) word) other) e) ∙ o)
