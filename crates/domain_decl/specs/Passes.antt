-- For private functions alone: the rules on declarations, by what is remembered of the statements
-- before.
use Rattle.std.specs.Prelude.{ℕ, nat_lt, nat_le, Bool, false, not, ◌||◌, ◌&&◌, List, [], ◌∷◌}
use Rattle.std.specs.Prelude.{length, Option, Some, None}
use Rattle.std.specs.List.{list_any}
use Rattle.ground_types.specs.Sound.{is_distinct}
use Rattle.rule_forms.specs.Forms.{PlainForm}
use Rattle.decl_known.specs.declared.checked.DeclRefused.TheVariants as refused
use Rattle.ground_types.specs.Words.{has}
use Rattle.decl_known.specs.Faults.{Fault, first_fault}
use Rattle.domain_decl.specs.Declarations.{is_domain, declares, arguments_in, members_in}
use Rattle.domain_decl.specs.Declarations.{most_members}

-- with so many domains before it, a declaration is the 65th, or it has more members or arguments
-- than it may have
abbrev pub too_many_behind : ℕ → PlainForm → Bool
too_many_behind domains form =
    (is_domain form && nat_le 64 domains) || nat_lt (most_members form) (length (members_in form))
    || nat_lt 3 (length (arguments_in form))

-- an argument is none of these domains
abbrev pub lacks_domain : List (List ℕ) → PlainForm → Bool
lacks_domain domains form = list_any (λ argument. not (has domains argument)) (arguments_in form)

abbrev pub is_among : List (List ℕ) → Option (List ℕ) → Bool
is_among declared None = false
is_among declared (Some word) = has declared word

-- its word is among those declared before it, or an entity or a value stands twice
abbrev pub twice_behind : List (List ℕ) → PlainForm → Bool
twice_behind declared form = is_among declared (declares form)
    || not (is_distinct (members_in form))

-- the first rule that a declaration breaks: of the words of all domains, the number of domains and
-- the words before it
abbrev pub fault_behind : List (List ℕ) → ℕ → List (List ℕ) → PlainForm → Option Fault
fault_behind domains count declared form = first_fault (
    (too_many_behind count form, refused.TooMany)
    ∷ (lacks_domain domains form, refused.Undeclared)
    ∷ (twice_behind declared form, refused.Twice)
    ∷ [])
