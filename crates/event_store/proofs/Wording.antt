-- Words that are put in order, and what they say with one more.
use Rattle.std.proofs.Common.{◌≡◌, ℕ, Bool, true, false, cond, not, ◌&&◌, ◌||◌, eqb, ltb, List, []}
use Rattle.std.proofs.Common.{◌∷◌, ◌++◌, filter, reverse, Option, Some, refl, sym, ap, ◌∙◌}
use Rattle.std.proofs.Common.{arith, append-nil}
use Rattle.std.specs.List.{find}
use Rattle.std.specs.List.Sorted.{ties, IsStableByKey}
use Rattle.std.specs.Option.{option_map, unwrap_or}
use Rattle.std.specs.Ordering.{nat_cmp, ordering_then, is_lt}
use Rattle.std.specs.declared.cmp.Ordering.{Ordering}
use Rattle.std.specs.declared.cmp.Ordering.TheVariants.{Less, Equal, Greater}
use Rattle.std.proofs.lemmas.Bool.Decides.{nat_tests}
use Rattle.std.proofs.lemmas.Grind.{reverse_onto}
use Rattle.std.proofs.lemmas.List.{reverse-append}
use Rattle.std.proofs.lemmas.List.Elements.{filter-append}
use Rattle.ground_types.specs.Touched.{differs}
use Rattle.event_store.specs.declared.told.Told.{Told}
use Rattle.event_store.specs.Words.{is_on, last_word, after_words}

-- the first that passes is the first of those that pass
find_filter : {X : Type 0} (p : X → Bool) (xs : List X) → find p (filter p xs) ≡ find p xs
find_filter p [] = refl
find_filter {X} p (x ∷ xs) = by (p x) refl (find_filter p xs)
  where
    by : (b : Bool) → p x ≡ b → find p (filter p xs) ≡ find p xs
        → find p (cond b (x ∷ filter p xs) (filter p xs)) ≡ cond (p x) (Some x) (find p xs)
    by true is rest = ap (λ (o : Option X). cond (p x) (Some x) o) rest
    by false is rest = rest ∙ sym (ap (λ (b : Bool). cond b (Some x) (find p xs)) is)

filter_reverse : {X : Type 0} (p : X → Bool) (xs : List X) → filter p (reverse xs)
    ≡ reverse (filter p xs)
filter_reverse p [] = refl
filter_reverse {X} p (x ∷ xs) = ap (filter p) (reverse_onto xs x [])
    ∙ filter-append p (reverse xs) (x ∷ [])
    ∙ ap (λ (l : List X). l ++ cond (p x) (x ∷ []) []) (filter_reverse p xs) ∙ by (p x)
  where
    by : (b : Bool) → reverse (filter p xs) ++ cond b (x ∷ []) []
        ≡ reverse (cond b (x ∷ filter p xs) (filter p xs))
    by true = sym (reverse_onto (filter p xs) x [])
    by false = append-nil (reverse (filter p xs))

-- the last that passes is the last of those that pass
last_of_some : {X : Type 0} (p : X → Bool) (xs ys : List X) → filter p xs ≡ filter p ys
    → find p (reverse xs) ≡ find p (reverse ys)
last_of_some {X} p xs ys same = sym (find_filter p (reverse xs)) ∙ ap (find p) (filter_reverse p xs
    ∙ ap (λ (l : List X). reverse l) same ∙ sym (filter_reverse p ys)) ∙ find_filter p (reverse ys)

lower_is : (l e m f : Bool) → is_lt (ordering_then (cond l Less (cond e Equal Greater))
    (cond m Less (cond f Equal Greater))) ≡ (l || (e && m))
lower_is true e m f = refl
lower_is false true true f = refl
lower_is false true false true = refl
lower_is false true false false = refl
lower_is false false m f = refl

neither_lower : (a b c d : ℕ) → (not (ltb a b || (eqb a b && ltb c d))
    && not (ltb b a || (eqb b a && ltb d c))) ≡ (eqb b a && eqb d c)
neither_lower a b c d = grind (arith, nat_tests)

-- the order of words: by event, and then by point
abbrev pub key : Told → ℕ × ℕ
key word = (word.event, word.at)

abbrev pub key_cmp : ℕ × ℕ → ℕ × ℕ → Ordering
key_cmp a b = ordering_then (nat_cmp a.0 b.0) (nat_cmp a.1 b.1)

tie_is : (one two : Told) → ties (λ x y. is_lt (key_cmp (key x) (key y))) one two
    ≡ is_on one.event one.at two
tie_is one two = (λ i. not (lower_is (ltb one.event two.event) (eqb one.event two.event)
    (ltb one.at two.at) (eqb one.at two.at) i) && not (lower_is (ltb two.event one.event)
    (eqb two.event one.event) (ltb two.at one.at) (eqb two.at one.at) i))
    ∙ neither_lower one.event two.event one.at two.at

-- words that are put in order, those on one event at one point in theirs, say the same
pub ordered_says : (told words : List Told) → IsStableByKey key key_cmp told words → (e t : ℕ)
    → last_word words e t ≡ last_word told e t
ordered_says told words stable e t =
    let one : Told = record { event = e; at = t; stands = false } in
    ap (option_map (λ word. word.stands)) (last_of_some (is_on e t) words told
    ((λ i. filter (λ w. sym (tie_is one w) i) words) ∙ stable one
    ∙ (λ i. filter (λ w. tie_is one w i) told)))

-- one more word
pub one_more_word : (words : List Told) (word : Told) (e t : ℕ) (before : Bool)
    → after_words (words ++ word ∷ []) e t before
    ≡ cond (is_on e t word) word.stands (after_words words e t before)
one_more_word words word e t before =
    ap (λ (l : List Told). unwrap_or (option_map (λ w. w.stands) (find (is_on e t) l)) before)
    (reverse-append words (word ∷ [])) ∙ by (is_on e t word)
  where
    by : (b : Bool) → unwrap_or (option_map (λ w. w.stands) (cond b (Some word)
        (find (is_on e t) (reverse words)))) before
        ≡ cond b word.stands (after_words words e t before)
    by true = refl
    by false = refl

same_differ : (a : Bool) → false ≡ differs a a
same_differ true = refl
same_differ false = refl

-- no word turns a point
pub no_word : (a : Bool) → false ≡ differs a a
no_word a = same_differ a

-- one more word turns its own point, where it says another thing than what stood
pub one_more_turn : (words : List Told) (word : Told) (e t : ℕ) (before old new : Bool)
    → old ≡ differs before (after_words words e t before)
    → new ≡ cond (is_on e t word) (differs before word.stands) old
    → new ≡ differs before (after_words (words ++ word ∷ []) e t before)
one_more_turn words word e t before old new was is = is ∙ by (is_on e t word)
    ∙ ap (differs before) (sym (one_more_word words word e t before))
  where
    by : (b : Bool) → cond b (differs before word.stands) old
        ≡ differs before (cond b word.stands (after_words words e t before))
    by true = refl
    by false = was
