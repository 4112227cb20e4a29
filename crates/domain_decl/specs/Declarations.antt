-- Public contracts speak by this: the rules on declarations.
use Rattle.std.specs.Prelude.{ℕ, nat_lt, nat_le, Bool, true, false, not, ◌||◌, ◌&&◌, List, [], ◌∷◌}
use Rattle.std.specs.Prelude.{length, filter_map, count_by, Option, Some, None}
use Rattle.std.specs.List.{list_any}
use Rattle.ground_types.specs.Sound.{is_distinct}
use Rattle.rule_forms.specs.Forms.{PlainForm, PlainStatement, Domain, Input, Simple, Static}
use Rattle.rule_forms.specs.Forms.{Derived}
use Rattle.decl_known.specs.declared.checked.DeclRefused.{DeclRefused}
use Rattle.decl_known.specs.declared.checked.DeclRefused.TheVariants as refused
use Rattle.ground_types.specs.Words.{has, domain_words}
use Rattle.decl_known.specs.Faults.{Fault, first_fault, first_refusal}
use Rattle.domain_decl.specs.Contents.{domains_of}

abbrev pub is_domain : PlainForm → Bool
is_domain (Domain name entities) = true
is_domain form = false

-- the word that a statement declares
abbrev pub declares : PlainForm → Option (List ℕ)
declares (Domain name entities) = Some name
declares (Input decl) = Some decl.name
declares (Simple decl values) = Some decl.name
declares (Static decl values) = Some decl.name
declares (Derived decl) = Some decl.name
declares form = None

-- the names of the domains of its arguments
abbrev pub arguments_in : PlainForm → List (List ℕ)
arguments_in (Input decl) = decl.args
arguments_in (Simple decl values) = decl.args
arguments_in (Static decl values) = decl.args
arguments_in (Derived decl) = decl.args
arguments_in form = []

-- its entities, or its values
abbrev pub members_in : PlainForm → List (List ℕ)
members_in (Domain name entities) = entities
members_in (Simple decl values) = values
members_in (Static decl values) = values
members_in form = []

abbrev pub most_members : PlainForm → ℕ
most_members (Domain name entities) = 4096
most_members form = 64

-- it is the 65th domain, or has more than 4,096 entities, more than 3 arguments or more than 64
-- values
abbrev pub declares_too_many : List PlainStatement → PlainForm → Bool
declares_too_many before form =
    (is_domain form && nat_le 64 (count_by (λ s. is_domain s.form) before))
    || nat_lt (most_members form) (length (members_in form))
    || nat_lt 3 (length (arguments_in form))

-- an argument is not the name of a domain that is declared anywhere in the text
abbrev pub has_undeclared_argument : List PlainStatement → PlainForm → Bool
has_undeclared_argument all form = list_any (λ argument.
    not (has (domain_words (domains_of all)) argument)) (arguments_in form)

-- its name was declared before, domains and all other names together
abbrev pub is_declared_before : List PlainStatement → Option (List ℕ) → Bool
is_declared_before before None = false
is_declared_before before (Some word) = has (filter_map (λ s. declares s.form) before) word

-- its name was declared before, or an entity or a value stands twice
abbrev pub declares_twice : List PlainStatement → PlainForm → Bool
declares_twice before form = is_declared_before before (declares form)
    || not (is_distinct (members_in form))

-- the first rule that a declaration breaks
abbrev pub declaration_fault : List PlainStatement → List PlainStatement → PlainForm → Option Fault
declaration_fault all before form = first_fault (
    (declares_too_many before form, refused.TooMany)
    ∷ (has_undeclared_argument all form, refused.Undeclared)
    ∷ (declares_twice before form, refused.Twice)
    ∷ [])

-- the refusal of the first declaration that breaks a rule
abbrev pub declaration_refusal : List PlainStatement → Option DeclRefused
declaration_refusal statements = first_refusal (declaration_fault statements) [] statements
