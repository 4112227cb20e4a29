-- Public contracts speak by this: the rules on the statements that define fluents and derived
-- events.
use Rattle.std.specs.Prelude.{ℕ, nat_lt, Bool, true, false, not, ◌||◌, ◌&&◌, ◌==◌, List, [], ◌∷◌}
use Rattle.std.specs.Prelude.{◌++◌, length, flat_map, filter_map, find, slice_get, zip, Option}
use Rattle.std.specs.Prelude.{Some, None}
use Rattle.std.specs.List.{list_any}
use Rattle.std.specs.Str.{bytes_eq}
use Rattle.ground_types.specs.declared.program.Domain.{Domain}
use Rattle.ground_types.specs.declared.program.Name.{Name}
use Rattle.ground_types.specs.Words.{declaration, entities_of, has, domain_words, name_words}
use Rattle.rule_forms.specs.declared.form.Term.{Term}
use Rattle.rule_forms.specs.declared.form.Term.TheVariants as term
use Rattle.rule_forms.specs.declared.form.Body.{Body}
use Rattle.rule_forms.specs.declared.form.Body.TheVariants as body
use Rattle.rule_forms.specs.Forms.{PlainForm, PlainStatement, Initiated, Terminated, Happens}
use Rattle.rule_forms.specs.Forms.{conditions_of}
use Rattle.decl_known.specs.declared.checked.DeclRefused.{DeclRefused}
use Rattle.decl_known.specs.declared.checked.DeclRefused.TheVariants as refused
use Rattle.decl_known.specs.Faults.{Fault, first_fault, first_refusal}
use Rattle.decl_known.specs.Mentions.{Role, Mention, fits, mentions, head_of, leaves_of, variables}

-- ---- one after the other

-- more than 8 conditions, the trigger and \= counted, or more than 64 leaves
abbrev pub has_too_many : PlainForm → Bool
has_too_many form = nat_lt 8 (length (conditions_of form)) || nat_lt 64 (length (leaves_of form))

abbrev pub is_trigger : Body → Bool
is_trigger (body.Happens positive event) = positive
is_trigger (body.Holds positive fv) = false
is_trigger (body.Unequal x y) = false

abbrev pub begins_with_trigger : List Body → Bool
begins_with_trigger [] = false
begins_with_trigger (first ∷ others) = is_trigger first

-- the first condition of a rule is not a positive happensAt
abbrev pub lacks_trigger : PlainForm → Bool
lacks_trigger (Initiated fv bodies) = not (begins_with_trigger bodies)
lacks_trigger (Terminated fv bodies) = not (begins_with_trigger bodies)
lacks_trigger (Happens atom bodies) = not (begins_with_trigger bodies)
lacks_trigger form = false

-- a name that is declared nowhere in the text, neither as a domain nor otherwise
abbrev pub names_undeclared : List Domain → List Name → Mention → Bool
names_undeclared domains names m = not (has (domain_words domains ++ name_words names) m.atom.name)

-- The name of a domain is that of no fluent or event, so it is of the wrong kind wherever it
-- stands. A name that is declared nowhere was refused before.
abbrev pub differs_in_kind : Role → Option Name → Bool
differs_in_kind role None = true
differs_in_kind role (Some name) = not (fits role name.kind)

-- an atom that does not name what it has to
abbrev pub is_of_wrong_kind : List Name → Mention → Bool
is_of_wrong_kind names m = differs_in_kind m.role (declaration names m.atom.name)

-- None never decides here and below: a name with no declaration as a fluent or event was refused
-- before.
abbrev pub differs_in_arity : List Term → Option Name → Bool
differs_in_arity args None = true
differs_in_arity args (Some name) = not (length args == length name.args)

-- an atom that has another number of arguments than its declaration
abbrev pub has_wrong_arity : List Name → Mention → Bool
has_wrong_arity names m = differs_in_arity m.atom.args (declaration names m.atom.name)

-- an entity that is not in this domain
abbrev pub is_foreign : List Domain → Term → ℕ → Bool
is_foreign domains (term.Entity w) d = not (has (entities_of domains d) w)
is_foreign domains (term.Variable w) d = false

abbrev pub lacks_value : Name → Option (List ℕ) → Bool
lacks_value name None = false
lacks_value name (Some value) = not (has name.values value)

abbrev pub differs_in_word : List Domain → Mention → Option Name → Bool
differs_in_word domains m None = true
differs_in_word domains m (Some name) =
    lacks_value name m.value || list_any (λ place. is_foreign domains place.0 place.1)
    (zip m.atom.args name.args)

-- a value that its fluent does not have, or an entity that is not in the domain of its place
abbrev pub has_undeclared_word : List Domain → List Name → Mention → Bool
has_undeclared_word domains names m = differs_in_word domains m (declaration names m.atom.name)

-- a variable at a place of this domain
abbrev pub variable_at : Term → ℕ → Option (List ℕ × ℕ)
variable_at (term.Entity w) d = None
variable_at (term.Variable w) d = Some (w, d)

abbrev pub places_by : List Term → Option Name → List (List ℕ × ℕ)
places_by args None = []
places_by args (Some name) = filter_map (λ place. variable_at place.0 place.1) (zip args name.args)

-- the variables of all atoms of a rule, each with the number of its place's domain
abbrev pub places : List Name → PlainForm → List (List ℕ × ℕ)
places names form = flat_map (λ m. places_by m.atom.args (declaration names m.atom.name))
    (mentions form)

-- one variable at places of two different domains
abbrev pub clash : List ℕ × ℕ → List ℕ × ℕ → Bool
clash one other = bytes_eq one.0 other.0 && not (one.1 == other.1)

-- a variable stands at places of two different domains
abbrev pub has_clash : List Name → PlainForm → Bool
has_clash names form = list_any (λ one. list_any (clash one) (places names form))
    (places names form)

abbrev pub compared : Body → List (List ℕ)
compared (body.Happens positive event) = []
compared (body.Holds positive fv) = []
compared (body.Unequal x y) = x ∷ y ∷ []

-- a variable of a holdsFor expression is not in the head, or a variable of \= stands at no place of
-- an atom
abbrev pub has_loose_variable : PlainForm → Bool
has_loose_variable form =
    list_any (λ x. not (has (variables (head_of form)) x)) (variables (leaves_of form))
    || list_any (λ x. not (has (variables (mentions form)) x))
    (flat_map compared (conditions_of form))

-- the first rule that a statement breaks
abbrev pub rule_fault : List Domain → List Name → PlainForm → Option Fault
rule_fault domains names form = first_fault (
    (has_too_many form, refused.TooMany)
    ∷ (lacks_trigger form, refused.NoTrigger)
    ∷ (list_any (names_undeclared domains names) (mentions form), refused.Undeclared)
    ∷ (list_any (is_of_wrong_kind names) (mentions form), refused.WrongKind)
    ∷ (list_any (has_wrong_arity names) (mentions form), refused.Arity)
    ∷ (list_any (has_undeclared_word domains names) (mentions form), refused.Undeclared)
    ∷ (has_clash names form, refused.Clash)
    ∷ (has_loose_variable form, refused.Loose)
    ∷ [])

-- the refusal of the first statement that breaks a rule
abbrev pub rule_refusal : List Domain → List Name → List PlainStatement → Option DeclRefused
rule_refusal domains names statements = first_refusal (λ before. rule_fault domains names) []
    statements
