-- Public contracts speak by this: the kinds of words of a description, which are at most 64
-- letters, digits and underscores, told apart by the first.
use Rattle.std.specs.Prelude.{ℕ, Bool, false, not, ◌&&◌, ◌||◌, ◌==◌, nat_le, List, [], ◌∷◌, length}
use Rattle.std.specs.Prelude.{codes}
use Rattle.std.specs.Char.{is_ascii_lowercase, is_ascii_uppercase, is_ascii_digit}
use Rattle.std.specs.List.{list_any, list_all}
use Rattle.std.specs.Str.{bytes_eq}

-- a letter, a digit or an underscore
abbrev pub is_letter : ℕ → Bool
is_letter b = is_ascii_lowercase b || is_ascii_uppercase b || is_ascii_digit b || (b == 95)

-- the words that may name nothing
abbrev pub reserved : List (List ℕ)
reserved =
    codes "window" ∷ codes "step" ∷ codes "from" ∷ codes "queries" ∷ codes "domain" ∷ codes "input"
    ∷ codes "simple"
    ∷ codes "static" ∷ codes "derived" ∷ codes "initially" ∷ codes "initiatedAt"
    ∷ codes "terminatedAt"
    ∷ codes "happensAt" ∷ codes "holdsAt" ∷ codes "holdsFor" ∷ codes "start" ∷ codes "end"
    ∷ codes "not"
    ∷ codes "union_all" ∷ codes "intersect_all" ∷ codes "relative_complement_all" ∷ codes "expires"
    ∷ []

abbrev pub is_reserved : List ℕ → Bool
is_reserved word = list_any (λ r. bytes_eq r word) reserved

-- the first byte is of this kind
abbrev pub first_is : (ℕ → Bool) → List ℕ → Bool
first_is kind [] = false
first_is kind (b ∷ bs) = kind b

-- 1 to 64 letters, digits and underscores, with a first of its kind
abbrev pub is_word : (ℕ → Bool) → List ℕ → Bool
is_word kind word = first_is kind word && list_all is_letter word && nat_le (length word) 64

-- the name of a domain, an event or a fluent
abbrev pub is_name : List ℕ → Bool
is_name word = is_word is_ascii_lowercase word && not (is_reserved word)

-- an entity or a value
abbrev pub is_constant : List ℕ → Bool
is_constant word = is_word (λ b. is_ascii_lowercase b || is_ascii_digit b) word
