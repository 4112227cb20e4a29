-- Lines with the same before each of them, and texts to which something is added.
use Rattle.std.proofs.Common.{◌≡◌, ℕ, List, [], ◌∷◌, ◌++◌, length, take, Result, OnErr}
use Rattle.std.proofs.Common.{refl, ◌∙◌, ap, ap₂, subst}
use Rattle.std.specs.List.{flat_map}
use Rattle.std.proofs.lemmas.List.{map-append}
use Rattle.std.proofs.lemmas.Result.{on_err_weaker}
use Rattle.report_text.specs.Report.{behind}

-- before the lines of each part
pub behind_flat : {X : Type 0} (lead : List ℕ) (lines : X → List (List ℕ)) (xs : List X)
    → behind lead (flat_map lines xs) ≡ flat_map (λ x. behind lead (lines x)) xs
behind_flat lead lines [] = refl
behind_flat lead lines (x ∷ xs) =
    map-append (λ line. lead ++ line) (lines x) (flat_map lines xs)
    ∙ ap (λ (l : List (List ℕ)). behind lead (lines x) ++ l) (behind_flat lead lines xs)

-- nothing before each of them
pub behind_nothing : (lines : List (List ℕ)) → behind [] lines ≡ lines
behind_nothing [] = refl
behind_nothing (line ∷ lines) = ap (λ (l : List (List ℕ)). line ∷ l) (behind_nothing lines)

-- what is kept of a text to which something was added is kept of the text
pub kept_before : (old added now : List ℕ) → take (length (old ++ added)) now ≡ old ++ added
    → take (length old) now ≡ old
kept_before [] added now kept = refl
kept_before (x ∷ old) added [] kept = absurd cc
kept_before (x ∷ old) added (y ∷ now) kept =
    let first : y ≡ x = cc in
    let others : take (length (old ++ added)) now ≡ old ++ added = cc in
    ap₂ (λ (b : ℕ) (l : List ℕ). b ∷ l) first (kept_before old added now others)

pub still_kept : {T E : Type 0} (result : Result T E) (old mid added now : List ℕ)
    → mid ≡ old ++ added → OnErr result (take (length mid) now ≡ mid)
    → OnErr result (take (length old) now ≡ old)
still_kept result old mid added now is kept =
    on_err_weaker result (λ k. kept_before old added now
    (subst (λ (l : List ℕ). take (length l) now ≡ l) is k)) kept
