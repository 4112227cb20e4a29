-- Numbered names say what the declared names say, but for their first numbers.
use Rattle.std.proofs.Common.{◌≡◌, ℕ, ◌+◌, Bool, true, false, cond, List, [], ◌∷◌, ◌++◌, length}
use Rattle.std.proofs.Common.{flat_map, option_map, Option, Some, None, refl, sym, ap, ap₂, ◌∙◌}
use Rattle.std.proofs.Common.{if◌then◌else◌}
use Rattle.std.specs.List.{list_any}
use Rattle.std.specs.Str.{bytes_eq}
use Rattle.ground_types.specs.Sound.{is_input, arguments_of}
use Rattle.ground_types.specs.declared.program.Domain.{Domain}
use Rattle.ground_types.specs.declared.program.Name.{Name}
use Rattle.rule_forms.specs.declared.form.Term.{Term}
use Rattle.rule_forms.specs.Forms.{PlainForm}
use Rattle.ground_types.specs.Words.{name_words, declaration}
use Rattle.decl_known.specs.Mentions.{Role, Mention, mentions}
use Rattle.decl_known.specs.Rules.{differs_in_kind, is_of_wrong_kind, differs_in_arity}
use Rattle.decl_known.specs.Rules.{has_wrong_arity, differs_in_word, has_undeclared_word, places_by}
use Rattle.decl_known.specs.Rules.{places, clash, has_clash}
use Rattle.decl_known.proofs.Anys.{list_any-same}
use Rattle.ground_names.specs.Numbers.{with_first, numbered}

-- it does not look at the first number of a name
abbrev pub Ignores : {X : Type 0} → (Option Name → X) → Type 0
Ignores f = (o : Option Name) → f o ≡ f (option_map (with_first 0) o)

found_alike : (b : Bool) (one other : Name) (o p : Option Name) → with_first 0 one
    ≡ with_first 0 other → option_map (with_first 0) o ≡ option_map (with_first 0) p
    → option_map (with_first 0) (cond b (Some one) o) ≡ option_map (with_first 0)
    (cond b (Some other) p)
found_alike true one other o p e f = ap Some e
found_alike false one other o p e f = f

ignores_kind : (role : Role) → Ignores (differs_in_kind role)
ignores_kind role None = refl
ignores_kind role (Some name) = refl

ignores_arity : (args : List Term) → Ignores (differs_in_arity args)
ignores_arity args None = refl
ignores_arity args (Some name) = refl

ignores_places : (args : List Term) → Ignores (places_by args)
ignores_places args None = refl
ignores_places args (Some name) = refl

flat_map-same : {X Y : Type 0} (f g : X → List Y) → ((x : X) → f x ≡ g x) → (xs : List X)
    → flat_map f xs ≡ flat_map g xs
flat_map-same f g same [] = refl
flat_map-same f g same (x ∷ xs) = ap₂ ◌++◌ (same x) (flat_map-same f g same xs)

module _ (domains : List Domain) where
  ignores_word : (m : Mention) → Ignores (differs_in_word domains m)
  ignores_word m None = refl
  ignores_word m (Some name) = refl

  pub same_words : (event unit : ℕ) (names : List Name)
      → name_words (numbered domains event unit names) ≡ name_words names
  same_words event unit [] = refl
  same_words event unit (name ∷ names) =
      let count = length (arguments_of domains name) in
      ap (λ ws. name.word ∷ ws) (same_words (if is_input name.kind then event + count else event)
      (if is_input name.kind then unit else unit + count) names)

  same_declaration : (word : List ℕ) (event unit : ℕ) (names : List Name)
      → option_map (with_first 0) (declaration (numbered domains event unit names) word)
      ≡ option_map (with_first 0) (declaration names word)
  same_declaration word event unit [] = refl
  same_declaration word event unit (name ∷ names) =
      let count = length (arguments_of domains name) in
      let e = if is_input name.kind then event + count else event in
      let u = if is_input name.kind then unit else unit + count in
      found_alike (bytes_eq name.word word) (with_first (if is_input name.kind then event
      else unit) name) name (declaration (numbered domains e u names) word)
      (declaration names word)
      refl (same_declaration word e u names)

  module _ (event unit : ℕ) (names : List Name) where
    carried : {X : Type 0} (f : Option Name → X) → Ignores f → (word : List ℕ)
        → f (declaration (numbered domains event unit names) word) ≡ f (declaration names word)
    carried f ignores word =
        ignores (declaration (numbered domains event unit names) word)
        ∙ ap f (same_declaration word event unit names) ∙ sym (ignores (declaration names word))

    pub same_kinds : (ms : List Mention)
        → list_any (is_of_wrong_kind (numbered domains event unit names)) ms
        ≡ list_any (is_of_wrong_kind names) ms
    same_kinds ms = list_any-same (is_of_wrong_kind (numbered domains event unit names))
        (is_of_wrong_kind names) (λ m. carried (differs_in_kind m.role) (ignores_kind m.role)
        m.atom.name) ms

    pub same_arities : (ms : List Mention)
        → list_any (has_wrong_arity (numbered domains event unit names)) ms
        ≡ list_any (has_wrong_arity names) ms
    same_arities ms = list_any-same (has_wrong_arity (numbered domains event unit names))
        (has_wrong_arity names) (λ m. carried (differs_in_arity m.atom.args)
        (ignores_arity m.atom.args) m.atom.name) ms

    pub same_undeclared : (ms : List Mention)
        → list_any (has_undeclared_word domains (numbered domains event unit names)) ms
        ≡ list_any (has_undeclared_word domains names) ms
    same_undeclared ms =
        list_any-same (has_undeclared_word domains (numbered domains event unit names))
        (has_undeclared_word domains names)
        (λ m. carried (differs_in_word domains m) (ignores_word m) m.atom.name) ms

    pub same_places : (form : PlainForm) → places (numbered domains event unit names) form
        ≡ places names form
    same_places form =
        flat_map-same (λ m. places_by m.atom.args (declaration (numbered domains event unit names)
        m.atom.name)) (λ m. places_by m.atom.args (declaration names m.atom.name))
        (λ m. carried (places_by m.atom.args) (ignores_places m.atom.args) m.atom.name)
        (mentions form)

    pub same_clash : (form : PlainForm) → has_clash (numbered domains event unit names) form
        ≡ has_clash names form
    same_clash form = ap (λ ps. list_any (λ one. list_any (clash one) ps) ps) (same_places form)
