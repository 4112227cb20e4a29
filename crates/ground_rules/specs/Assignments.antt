-- Public contracts speak by this: *Instances*, the assignments of a statement's variables from
-- their domains, in order, for which every X \= Y compares two different words.
use Rattle.std.specs.Prelude.{ℕ, Bool, true, not, List, [], ◌∷◌, ◌++◌, map, flat_map, filter, find}
use Rattle.std.specs.Prelude.{fold, slice_index_or, Option, Some, None, if◌then◌else◌}
use Rattle.std.specs.List.{list_all}
use Rattle.std.specs.Str.{bytes_eq}
use Rattle.ground_types.specs.Sound.{argument_lists, domain_sizes}
use Rattle.ground_types.specs.declared.program.Domain.{Domain}
use Rattle.ground_types.specs.declared.program.Name.{Name}
use Rattle.rule_forms.specs.declared.form.Body.{Body}
use Rattle.rule_forms.specs.declared.form.Body.TheVariants as body
use Rattle.rule_forms.specs.Forms.{PlainForm, conditions_of}
use Rattle.ground_types.specs.Words.{has, place_in, entities_of}
use Rattle.decl_known.specs.Mentions.{head_of, leaves_of, body_mentions, variables}
use Rattle.decl_known.specs.Rules.{places}

-- a statement over declarations
pub record Clause : Type 0 where
  pub domains : List Domain
  pub names : List Name
  pub form : PlainForm

-- the variables of a condition, those of X \= Y too
abbrev pub variables_in : Body → List (List ℕ)
variables_in (body.Unequal x y) = x ∷ y ∷ []
variables_in condition = variables (body_mentions condition)

-- a word behind others, unless it is one of them
abbrev pub with_word : List (List ℕ) → List ℕ → List (List ℕ)
with_word words word = if has words word then words else words ++ (word ∷ [])

-- each word once, at its first place
abbrev pub each_once : List (List ℕ) → List (List ℕ)
each_once words = fold with_word [] words

-- the variables of a statement in the order of their first occurrence, head first
abbrev pub variables_of : PlainForm → List (List ℕ)
variables_of form = each_once (variables (head_of form)
    ++ (flat_map variables_in (conditions_of form) ++ variables (leaves_of form)))

abbrev pub number_at : Option (List ℕ × ℕ) → ℕ
number_at None = 0
number_at (Some place) = place.1

-- The number of a variable's domain: that of the first place of an atom at which it stands. (In a
-- checked description all its places are of this domain, and it has one.)
abbrev pub domain_of : Clause → List ℕ → ℕ
domain_of clause variable = number_at (find (λ place. bytes_eq place.0 variable)
    (places clause.names clause.form))

-- how many entities each variable may stand for
abbrev pub variable_sizes : Clause → List ℕ
variable_sizes clause = domain_sizes clause.domains
    (map (domain_of clause) (variables_of clause.form))

-- All assignments of entity numbers to the variables, in order, the first variable slowest.
abbrev pub assignments : Clause → List (List ℕ)
assignments clause = argument_lists (variable_sizes clause)

-- a statement under an assignment
pub record Instance : Type 0 where
  pub clause : Clause
  pub assignment : List ℕ

abbrev pub entity_at : List ℕ → Option ℕ → ℕ
entity_at assignment None = 0
entity_at assignment (Some place) = slice_index_or assignment place 0

-- the number of the entity that a variable stands for
abbrev pub entity_of : Instance → List ℕ → ℕ
entity_of i variable = entity_at i.assignment (place_in (variables_of i.clause.form) variable)

-- its word
abbrev pub word_of : Instance → List ℕ → List ℕ
word_of i variable = slice_index_or (entities_of i.clause.domains (domain_of i.clause variable))
    (entity_of i variable) []

-- the assignment permits a condition: X \= Y only where the words differ
abbrev pub permits : Instance → Body → Bool
permits i (body.Unequal x y) = not (bytes_eq (word_of i x) (word_of i y))
permits i condition = true

-- every X \= Y compares two different words
abbrev pub is_permitted : Instance → Bool
is_permitted i = list_all (permits i) (conditions_of i.clause.form)

-- The instances of a statement, in order.
abbrev pub instances : Clause → List Instance
instances clause = filter is_permitted (map (λ assignment. record {
  clause = clause;
  assignment =
      assignment;
}) (assignments clause))
