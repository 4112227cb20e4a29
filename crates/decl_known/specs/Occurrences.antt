-- Public contracts speak by this: which names occur in the bodies of which, and which depend on
-- themselves.
use Rattle.std.specs.Prelude.{◌≡◌, ◌<◌, ℕ, Bool, true, List, [], ◌∷◌, ◌++◌, map, flat_map}
use Rattle.std.specs.Prelude.{slice_get, Some, if◌then◌else◌}
use Rattle.std.specs.List.{list_any}
use Rattle.std.specs.Str.{bytes_eq}
use Rattle.ground_types.specs.declared.program.Name.{Name}
use Rattle.rule_forms.specs.Forms.{PlainForm, PlainStatement, conditions_of}
use Rattle.ground_types.specs.Words.{has}
use Rattle.decl_known.specs.Mentions.{head_of, body_mentions, leaves_of}

-- the statement defines this name
abbrev pub defines : List ℕ → PlainForm → Bool
defines word form = list_any (λ m. bytes_eq m.atom.name word) (head_of form)

-- the names of the conditions and of the expression of a statement
abbrev pub body_of : PlainForm → List (List ℕ)
body_of form = map (λ m. m.atom.name) (flat_map body_mentions (conditions_of form) ++ leaves_of
    form)

-- the names in the bodies of a name
abbrev pub bodies_of : List PlainStatement → List ℕ → List (List ℕ)
bodies_of rules word = flat_map (λ s. if defines word s.form then body_of s.form else []) rules

-- a name occurs in a body of another
abbrev pub occurs : List PlainStatement → List ℕ → List ℕ → Bool
occurs rules other word = has (bodies_of rules word) other

-- A chain of names from one to the last: each occurs in a body of the one before it.
abbrev pub IsChain : List PlainStatement → List ℕ → List (List ℕ) → List ℕ → Type 0
IsChain rules word [] last = occurs rules last word ≡ true
IsChain rules word (next ∷ more) last = (occurs rules next word ≡ true) × IsChain rules next more
    last

-- a name reaches itself along a chain
pub record ReachesItself (rules : List PlainStatement) (word : List ℕ) : Type 0 where
  pub between : List (List ℕ)
  pub chain : IsChain rules word between word

-- none of the names before a place reaches itself
abbrev pub NoneBefore : List PlainStatement → List Name → ℕ → Type 0
NoneBefore rules names place =
    (earlier : ℕ) (name : Name) → earlier < place → slice_get names earlier ≡ Some name
    → ReachesItself rules name.word → ⊥

-- the first declared name that reaches itself, by its place, and the line of its declaration
pub record IsFirstCycle (rules : List PlainStatement) (names : List Name) (place line : ℕ) : Type 0
  where
    pub name : Name
    pub at : slice_get names place ≡ Some name
    pub line_is : line ≡ name.line
    pub reaches : ReachesItself rules name.word
    pub none_before : NoneBefore rules names place
