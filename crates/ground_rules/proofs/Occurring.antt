-- The variables of atoms, one after the other.
use Rattle.std.proofs.Common.{◌≡◌, ℕ, ◌+◌, ◌<◌, List, [], ◌∷◌, ◌++◌, length, take, get_or}
use Rattle.std.proofs.Common.{map, fold, ap, sym, ◌∙◌}
use Rattle.std.proofs.lemmas.Grind.{flat_map-append}
use Rattle.std.proofs.lemmas.List.{take_more, map-append}
use Rattle.std.proofs.lemmas.List.Sums.{fold-append}
use Rattle.decl_known.specs.declared.mentions.Mention.{Mention as Lent}
use Rattle.decl_known.specs.Mentions.{Mention, variable_in, variables}
use Rattle.decl_known.specs.Gathered.{mention_of, mentions_of}
use Rattle.std.specs.List.{filter_map}

pub variables_of_both : (xs ys : List Lent) → variables (mentions_of (xs ++ ys))
    ≡ variables (mentions_of xs) ++ variables (mentions_of ys)
variables_of_both xs ys =
    ap variables (map-append mention_of xs ys)
    ∙ flat_map-append (λ (m : Mention). filter_map variable_in m.atom.args) (mentions_of xs)
    (mentions_of ys)

-- ---- a value that takes what some items of a list give

module _ {X Y Z : Type 0} (f : Z → Y → Z) (g : List X → List Y) (parts : (xs ys : List X)
    → g (xs ++ ys) ≡ g xs ++ g ys) where
  pub one_more_taken : (xs : List X) (i : ℕ) (x : X) (before old now : Z) → i < length xs
      → x ≡ get_or xs i x → now ≡ fold f old (g (x ∷ [])) → old ≡ fold f before (g (take i xs))
      → now ≡ fold f before (g (take (i + 1) xs))
  one_more_taken xs i x before old now inside at put held =
      put ∙ ap (λ s. fold f s (g (x ∷ []))) held
      ∙ sym (fold-append f before (g (take i xs)) (g (x ∷ [])))
      ∙ ap (fold f before) (sym (parts (take i xs) (x ∷ [])) ∙ ap (λ w. g (take i xs ++ w ∷ [])) at
      ∙ ap g (sym (take_more xs i x inside)))

-- ---- a list of what a function gives for each item of a list

pub one_more_mapped : {X Y : Type 0} (f : X → Y) (xs : List X) (i : ℕ) (x : X) (old now : List Y)
    → i < length xs → x ≡ get_or xs i x → now ≡ old ++ (f x ∷ []) → old ≡ map f (take i xs)
    → now ≡ map f (take (i + 1) xs)
one_more_mapped f xs i x old now inside at put held =
    put ∙ ap (λ ys. ys ++ (f x ∷ [])) held
    ∙ sym (map-append f (take i xs) (x ∷ []))
    ∙ ap (λ w. map f (take i xs ++ w ∷ [])) at ∙ ap (map f) (sym (take_more xs i x inside))
