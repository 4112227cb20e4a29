-- Tests over the variables of a statement.
use Rattle.std.proofs.Common.{◌≡◌, ℕ, Bool, not, ◌||◌, List, [], ◌∷◌, ◌++◌, map, flat_map}
use Rattle.std.proofs.Common.{filter_map, refl, sym, ap, ap₂, ◌∙◌}
use Rattle.std.proofs.lemmas.List.Folds.{list_any-append}
use Rattle.std.specs.List.{list_any}
use Rattle.std.specs.Str.{bytes_eq}
use Rattle.rule_forms.specs.declared.form.Term.{Term}
use Rattle.rule_forms.specs.declared.form.Term.TheVariants as term
use Rattle.rule_forms.specs.declared.form.Body.{Body}
use Rattle.rule_forms.specs.Forms.{PlainForm, Window, Step, From, Queries, Domain, Input, Simple}
use Rattle.rule_forms.specs.Forms.{Static, Derived, Initially, Initiated, Terminated, Happens}
use Rattle.rule_forms.specs.Forms.{HoldsFor, conditions_of}
use Rattle.decl_known.proofs.Anys.{list_any-map, list_any-flat_map, list_any-same}
use Rattle.decl_known.specs.declared.mentions.Mention.{Mention as Lent}
use Rattle.decl_known.specs.declared.variables.Place.{Place}
use Rattle.ground_types.specs.Words.{has}
use Rattle.decl_known.specs.Mentions.{Mention, body_mentions, head_of, leaves_of, mentions}
use Rattle.decl_known.specs.Mentions.{variable_in, variables}
use Rattle.decl_known.specs.Rules.{compared, has_loose_variable}
use Rattle.decl_known.specs.Gathered.{mention_of, mentions_of, place_of, places_of}
use Rattle.domain_decl.specs.Loose.{is_variable, is_loose}

pub any_of_places : (p : List ℕ × ℕ → Bool) (places : List Place) → list_any p (places_of places)
    ≡ list_any (λ place. p (place_of place)) places
any_of_places p places = list_any-map p place_of places

pub any_of_mentions : (p : Mention → Bool) (ms : List Lent) → list_any p (mentions_of ms)
    ≡ list_any (λ m. p (mention_of m)) ms
any_of_mentions p ms = list_any-map p mention_of ms

-- ---- variables

variable_among : (word : List ℕ) (terms : List Term) → has (filter_map variable_in terms) word
    ≡ list_any (is_variable word) terms
variable_among word [] = refl
variable_among word (term.Entity w ∷ terms) = variable_among word terms
variable_among word (term.Variable w ∷ terms) = ap (λ b. bytes_eq w word || b)
    (variable_among word terms)

pub is_variable_of : (word : List ℕ) (ms : List Lent) → has (variables (mentions_of ms)) word
    ≡ list_any (λ m. list_any (is_variable word) m.atom.now.args) ms
is_variable_of word ms =
    list_any-flat_map (λ other. bytes_eq other word) (λ (m : Mention). filter_map variable_in
    m.atom.args) (mentions_of ms)
    ∙ list_any-map (λ (m : Mention). has (filter_map variable_in m.atom.args) word) mention_of ms
    ∙ list_any-same (λ (m : Lent). has (filter_map variable_in m.atom.now.args) word)
    (λ m. list_any (is_variable word) m.atom.now.args) (λ m. variable_among word m.atom.now.args)
    ms

loose_among : (known : List (List ℕ)) (terms : List Term) → list_any (λ x. not (has known x))
    (filter_map variable_in terms) ≡ list_any (is_loose known) terms
loose_among known [] = refl
loose_among known (term.Entity w ∷ terms) = loose_among known terms
loose_among known (term.Variable w ∷ terms) = ap (λ b. not (has known w) || b)
    (loose_among known terms)

pub any_loose_of : (known : List (List ℕ)) (ms : List Lent) → list_any (λ x. not (has known x))
    (variables (mentions_of ms)) ≡ list_any (λ m. list_any (is_loose known) m.atom.now.args) ms
any_loose_of known ms =
    list_any-flat_map (λ x. not (has known x)) (λ (m : Mention). filter_map variable_in
    m.atom.args) (mentions_of ms)
    ∙ list_any-map (λ (m : Mention). list_any (λ x. not (has known x))
    (filter_map variable_in m.atom.args)) mention_of ms
    ∙ list_any-same (λ (m : Lent). list_any (λ x. not (has known x))
    (filter_map variable_in m.atom.now.args)) (λ m. list_any (is_loose known) m.atom.now.args)
    (λ m. loose_among known m.atom.now.args) ms

pub any_compared : (known : List (List ℕ)) (bodies : List Body) → list_any (λ x. not (has known x))
    (flat_map compared bodies) ≡ list_any (λ body. list_any (λ x. not (has known x))
    (compared body)) bodies
any_compared known bodies = list_any-flat_map (λ x. not (has known x)) compared bodies

-- the head and the conditions of a statement with an expression are its head
loose_leaves : (form : PlainForm) → list_any
    (λ x. not (has (variables (head_of form ++ flat_map body_mentions (conditions_of form))) x))
    (variables (leaves_of form)) ≡ list_any (λ x. not (has (variables (head_of form)) x))
    (variables (leaves_of form))
loose_leaves (Window n) = refl
loose_leaves (Step n) = refl
loose_leaves (From n) = refl
loose_leaves (Queries n) = refl
loose_leaves (Domain name entities) = refl
loose_leaves (Input decl) = refl
loose_leaves (Simple decl values) = refl
loose_leaves (Static decl values) = refl
loose_leaves (Derived decl) = refl
loose_leaves (Initially fv) = refl
loose_leaves (Initiated fv bodies) = refl
loose_leaves (Terminated fv bodies) = refl
loose_leaves (Happens atom bodies) = refl
loose_leaves (HoldsFor fv e) = refl

pub loose_by_parts : (form : PlainForm) →
    has_loose_variable form
    ≡ (list_any (λ x. not (has (variables (head_of form ++ flat_map body_mentions
    (conditions_of form))) x)) (variables (leaves_of form))
    || list_any (λ x. not (has (variables (mentions form)) x))
    (flat_map compared (conditions_of form)))
loose_by_parts form = ap (λ b. b || list_any (λ x. not (has (variables (mentions form)) x))
    (flat_map compared (conditions_of form))) (sym (loose_leaves form))
