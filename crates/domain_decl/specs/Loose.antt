-- For private functions alone: the variables of a statement, term by term.
use Rattle.std.specs.Prelude.{ℕ, Bool, false, not, List}
use Rattle.std.specs.Str.{bytes_eq}
use Rattle.ground_types.specs.Words.{has}
use Rattle.rule_forms.specs.declared.form.Term.{Term}
use Rattle.rule_forms.specs.declared.form.Term.TheVariants as term

-- it is this variable
abbrev pub is_variable : List ℕ → Term → Bool
is_variable word (term.Entity w) = false
is_variable word (term.Variable w) = bytes_eq w word

-- it is a variable that is none of these
abbrev pub is_loose : List (List ℕ) → Term → Bool
is_loose known (term.Entity w) = false
is_loose known (term.Variable w) = not (has known w)
