-- For private functions alone: what is remembered of the numbers of all statements of one kind.
use Rattle.std.specs.Prelude.{ℕ, List, [], ◌∷◌, Option, Some, None}
use Rattle.domain_decl.specs.declared.plans.Kind.{Kind}
use Rattle.domain_decl.specs.declared.plans.Kind.TheVariants as kind
use Rattle.domain_decl.specs.declared.plans.Given.{Given}
use Rattle.domain_decl.specs.declared.plans.Given.TheVariants as given
use Rattle.rule_forms.specs.Forms.{PlainForm}
use Rattle.domain_decl.specs.Plans.{window_in, step_in, from_in, queries_in}

abbrev pub number_in : Kind → PlainForm → Option ℕ
number_in kind.Window form = window_in form
number_in kind.Step form = step_in form
number_in kind.From form = from_in form
number_in kind.Queries form = queries_in form

-- none, the only one, or that there are more
abbrev pub given_by : List ℕ → Given
given_by [] = given.Nothing
given_by (n ∷ []) = given.One n
given_by (n ∷ m ∷ ns) = given.More

-- with one more number
abbrev pub with_number : Given → Option ℕ → Given
with_number before None = before
with_number given.Nothing (Some n) = given.One n
with_number (given.One m) (Some n) = given.More
with_number given.More (Some n) = given.More
