-- Public contracts speak by this: reserved words, variables and numbers.
use Rattle.std.specs.Prelude.{ℕ, ◌+◌, ◌*◌, ◌-◌, Bool, ◌&&◌, nat_le, nat_lt, List, [], ◌∷◌, length}
use Rattle.std.specs.Prelude.{Option, codes, find}
use Rattle.std.specs.Str.{bytes_eq}
use Rattle.std.specs.List.{list_all}
use Rattle.std.specs.Char.{is_ascii_uppercase, is_ascii_digit}
use Rattle.rt_base.specs.Kinds.{is_word, is_name, is_constant}
use Rattle.rule_forms.specs.Sound.{is_variable}
use Rattle.rule_read.specs.declared.keyword.Keyword.{Keyword}
use Rattle.rule_read.specs.declared.keyword.Keyword.TheVariants as key
use Rattle.rule_read.specs.declared.keyword.Kind.{Kind}
use Rattle.rule_read.specs.declared.keyword.Kind.TheVariants as kind

abbrev pub spelled : Keyword → List ℕ
spelled key.Window = codes "window"
spelled key.Step = codes "step"
spelled key.From = codes "from"
spelled key.Queries = codes "queries"
spelled key.Domain = codes "domain"
spelled key.Input = codes "input"
spelled key.Simple = codes "simple"
spelled key.Static = codes "static"
spelled key.Derived = codes "derived"
spelled key.Initially = codes "initially"
spelled key.InitiatedAt = codes "initiatedAt"
spelled key.TerminatedAt = codes "terminatedAt"
spelled key.HappensAt = codes "happensAt"
spelled key.HoldsAt = codes "holdsAt"
spelled key.HoldsFor = codes "holdsFor"
spelled key.Start = codes "start"
spelled key.End = codes "end"
spelled key.Not = codes "not"
spelled key.UnionAll = codes "union_all"
spelled key.IntersectAll = codes "intersect_all"
spelled key.RelativeComplementAll = codes "relative_complement_all"
spelled key.Expires = codes "expires"

abbrev pub keywords : List Keyword
keywords =
    key.Window ∷ key.Step ∷ key.From ∷ key.Queries ∷ key.Domain ∷ key.Input ∷ key.Simple
    ∷ key.Static ∷ key.Derived ∷ key.Initially
    ∷ key.InitiatedAt ∷ key.TerminatedAt ∷ key.HappensAt ∷ key.HoldsAt ∷ key.HoldsFor ∷ key.Start
    ∷ key.End ∷ key.Not ∷ key.UnionAll
    ∷ key.IntersectAll ∷ key.RelativeComplementAll ∷ key.Expires ∷ []

-- the reserved word that a word is
unfoldable pub keyword_of : List ℕ → Option Keyword
keyword_of word = find (λ k. bytes_eq (spelled k) word) keywords

abbrev pub is_of : Kind → List ℕ → Bool
is_of kind.Name word = is_name word
is_of kind.Constant word = is_constant word
is_of kind.Variable word = is_variable word

-- 1 to 16 digits
abbrev pub is_number : List ℕ → Bool
is_number word = list_all is_ascii_digit word && nat_lt 0 (length word) && nat_le (length word) 16

abbrev pub number_after : ℕ → List ℕ → ℕ
number_after n [] = n
number_after n (b ∷ bs) = number_after (10 * n + (b - 48)) bs

-- the number that digits write
abbrev pub number_of : List ℕ → ℕ
number_of digits = number_after 0 digits
