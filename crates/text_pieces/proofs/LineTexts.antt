-- The text of lines that are made item by item.
use Rattle.std.proofs.Common.{◌≡◌, ℕ, ◌+◌, ◌<◌, ◌≤◌, min, List, [], ◌∷◌, ◌++◌, length, take}
use Rattle.std.proofs.Common.{take_all, get_or, map, refl, sym, ◌∙◌, ap, ap₂, arith, append_assoc}
use Rattle.std.specs.List.{flat_map, zip}
use Rattle.std.proofs.lemmas.List.{take_more, get_or-map, length-map, append-nil}
use Rattle.std.proofs.lemmas.Grind.{flat_map-append}
use Rattle.std.proofs.lemmas.Slice.Zip.{get_or-zip, length-zip}
use Rattle.text_pieces.specs.Lines.{text_of_lines}

-- the text of some lines and then others
pub text_append : (xs ys : List (List ℕ)) → text_of_lines (xs ++ ys) ≡ text_of_lines xs
    ++ text_of_lines ys
text_append xs ys = flat_map-append (λ (line : List ℕ). line ++ 10 ∷ []) xs ys

-- one more item makes its lines
pub text_push : {X : Type 0} (lines : X → List (List ℕ)) (xs : List X) (x : X) →
    text_of_lines (flat_map lines (xs ++ x ∷ [])) ≡ text_of_lines (flat_map lines xs)
    ++ text_of_lines (lines x)
text_push lines xs x =
    ap text_of_lines (flat_map-append lines xs (x ∷ [])
    ∙ ap (λ (l : List (List ℕ)). flat_map lines xs ++ l) (append-nil (lines x)))
    ∙ text_append (flat_map lines xs) (lines x)

-- one more pair, of a list and of another as it is seen
pub zip_push : {A B C : Type 0} (lines : A × C → List (List ℕ)) (seen : B → C) (ks : List A)
    (vs : List B) (i : ℕ) (k : A) (v : B) →
    (i < length ks) × (i < length vs) × ((d : A) → k ≡ get_or ks i d)
    × ((d : B) → v ≡ get_or vs i d) → (n : ℕ) → n ≡ i + 1 →
    text_of_lines (flat_map lines (take n (zip ks (map seen vs))))
    ≡ text_of_lines (flat_map lines (take i (zip ks (map seen vs)))) ++ text_of_lines
    (lines (k, seen v))
zip_push lines seen ks vs i k v (low, low', first, second) n is =
    let count : length (zip ks (map seen vs)) ≡ min (length ks) (length vs) =
    length-zip ks (map seen vs) ∙ ap (λ (m : ℕ). min (length ks) m) (length-map vs seen) in
    let within : i < length (zip ks (map seen vs)) = omega (arith, count) in
    let seen_within : i < length (map seen vs) = omega (arith, length-map vs seen) in
    let at : get_or (zip ks (map seen vs)) i (k, seen v) ≡ (k, seen v) =
    get_or-zip ks (map seen vs) i (k, seen v) low seen_within
    ∙ ap₂ (λ (a : _) (b : _). (a, b)) (sym (first k)) (get_or-map seen vs i v (seen v) low'
    ∙ ap seen (sym (second v))) in
    ap (λ (m : ℕ). text_of_lines (flat_map lines (take m (zip ks (map seen vs))))) is
    ∙ ap (λ (l : _). text_of_lines (flat_map lines l)) (take_more (zip ks (map seen vs)) i
    (k, seen v) within)
    ∙ ap (λ (p : _). text_of_lines (flat_map lines (take i (zip ks (map seen vs)) ++ p ∷ []))) at
    ∙ text_push lines (take i (zip ks (map seen vs))) (k, seen v)

-- all pairs
pub zip_whole : {A B C : Type 0} (seen : B → C) (ks : List A) (vs : List B) (i : ℕ)
    → i ≡ min (length ks) (length vs) →
    take i (zip ks (map seen vs)) ≡ zip ks (map seen vs)
zip_whole seen ks vs i is =
    let count : length (zip ks (map seen vs)) ≡ min (length ks) (length vs) =
    length-zip ks (map seen vs) ∙ ap (λ (m : ℕ). min (length ks) m) (length-map vs seen) in
    let within : length (zip ks (map seen vs)) ≤ i = omega (arith, count) in
    take_all i (zip ks (map seen vs)) within

-- one more pair of two lists makes its text
pub pair_push : {A B : Type 0} (text : A × B → List ℕ) (ks : List A) (vs : List B) (i : ℕ) (k : A)
    (v : B) →
    (i < length ks) × (i < length vs) × ((d : A) → k ≡ get_or ks i d)
    × ((d : B) → v ≡ get_or vs i d) → (n : ℕ) → n ≡ i + 1 →
    flat_map text (take n (zip ks vs)) ≡ flat_map text (take i (zip ks vs)) ++ text (k, v)
pair_push text ks vs i k v (low, low', first, second) n is =
    let within : i < length (zip ks vs) = omega (arith, length-zip ks vs) in
    let at : get_or (zip ks vs) i (k, v) ≡ (k, v) =
    get_or-zip ks vs i (k, v) low low' ∙ ap₂ (λ (a : _) (b : _). (a, b)) (sym (first k))
    (sym (second v)) in
    ap (λ (m : ℕ). flat_map text (take m (zip ks vs))) is
    ∙ ap (flat_map text) (take_more (zip ks vs) i (k, v) within
    ∙ ap (λ (p : _). take i (zip ks vs) ++ p ∷ []) at)
    ∙ flat_map-append text (take i (zip ks vs)) ((k, v) ∷ [])
    ∙ ap (λ (l : List ℕ). flat_map text (take i (zip ks vs)) ++ l) (append-nil (text (k, v)))

pub pairs_whole : {A B : Type 0} (ks : List A) (vs : List B) (i : ℕ)
    → i ≡ min (length ks) (length vs) → take i (zip ks vs) ≡ zip ks vs
pairs_whole ks vs i is = take_all i (zip ks vs) (omega (arith, length-zip ks vs))

-- a text that grew by a piece
pub grown : (base front piece now after : List ℕ) → now ≡ base ++ front → after ≡ now ++ piece
    → after ≡ base ++ (front ++ piece)
grown base front piece now after is more = more ∙ ap (λ (l : List ℕ). l ++ piece) is
    ∙ append_assoc base front piece
