-- Layers are determined.
use Rattle.std.proofs.Common.{◌≡◌, inl, inr, ℕ, zero, suc, ◌<◌, Bool, true, false, List, [], ◌∷◌}
use Rattle.std.proofs.Common.{length, map, slice_get, slice_index_or, option_map, Option, Some}
use Rattle.std.proofs.Common.{None, refl, sym, ap, ap₂, ◌∙◌, arith, if◌then◌else◌}
use Rattle.std.proofs.lemmas.List.{get_or_past}
use Rattle.std.proofs.lemmas.Option.{slice_get_cases, slice_get-map, get_or_from_slice_get}
use Rattle.ground_types.specs.declared.program.Name.{Name}
use Rattle.ground_types.specs.Sound.{is_input}
use Rattle.rule_forms.specs.Forms.{PlainStatement}
use Rattle.ground_types.specs.Words.{place_in, name_words}
use Rattle.decl_known.specs.Occurrences.{bodies_of}
use Rattle.decl_known.specs.Layers.{layer_at, layer_of, greatest, layer_by, IsLayering}
use Rattle.decl_known.proofs.Greatest.{greatest_cons}
use Rattle.word_table.proofs.LookUps.{word_there}

maps_agree : (f g : List ℕ → ℕ) (k : ℕ) → ((word : List ℕ) → f word < k → f word ≡ g word)
    → (ws : List (List ℕ)) → greatest (map f ws) < k → map f ws ≡ map g ws
maps_agree f g k same [] below = refl
maps_agree f g k same (w ∷ ws) below =
    let e = greatest_cons (f w) (map f ws) in
    ap₂ (λ n ns. n ∷ ns) (same w (omega arith)) (maps_agree f g k same ws (omega arith))

same_lists : (xs ys : List ℕ) → length xs ≡ length ys
    → ((i : ℕ) → slice_index_or xs i 0 ≡ slice_index_or ys i 0) → xs ≡ ys
same_lists [] [] len same = refl
same_lists [] (y ∷ ys) len same = absurd (omega arith)
same_lists (x ∷ xs) [] len same = absurd (omega arith)
same_lists (x ∷ xs) (y ∷ ys) len same = ap₂ (λ n ns. n ∷ ns) (same 0)
    (same_lists xs ys (omega arith) (λ i. same (suc i)))

module _ (rules : List PlainStatement) (names : List Name) (one two : List ℕ)
    (first : IsLayering rules names one) (second : IsLayering rules names two) where
  over : (k : ℕ) → ((word : List ℕ) → layer_of names one word < k → layer_of names one word
      ≡ layer_of names two word) → (name : Name) (b : Bool) → is_input name.kind ≡ b
      → layer_by rules names one name < suc k → layer_by rules names one name ≡ layer_by rules
      names two name
  over k same name true e below =
      ap (λ c. if c then 0 else suc (greatest
      (map (layer_of names one) (bodies_of rules name.word)))) e
      ∙ sym (ap (λ c. if c then 0 else suc
      (greatest (map (layer_of names two) (bodies_of rules name.word)))) e)
  over k same name false e below =
      let is : layer_by rules names one name
      ≡ suc (greatest (map (layer_of names one) (bodies_of rules name.word))) =
      ap (λ c. if c then 0 else suc (greatest
      (map (layer_of names one) (bodies_of rules name.word)))) e in
      is
      ∙ ap (λ ns. suc (greatest ns)) (maps_agree (layer_of names one) (layer_of names two) k same
      (bodies_of rules name.word) (omega (arith, is, below)))
      ∙ sym (ap (λ c. if c then 0 else suc
      (greatest (map (layer_of names two) (bodies_of rules name.word)))) e)

  at_place : (p : ℕ) (name : Name) → slice_get names p ≡ Some name
      → (slice_index_or one p 0 ≡ layer_by rules names one name)
      × (slice_index_or two p 0 ≡ layer_by rules names two name)
  at_place p name at = (
    get_or_from_slice_get one p (layer_by rules names one name) 0 (first.each p name at),
    get_or_from_slice_get two p (layer_by rules names two name) 0 (second.each p name at),
  )

  agree_at : (k : ℕ) → ((word : List ℕ) → layer_of names one word < k → layer_of names one word
      ≡ layer_of names two word)
      → (word : List ℕ) (p : ℕ) → place_in (name_words names) word ≡ Some p → (o : Option Name)
      → slice_get names p ≡ o → layer_of names one word < suc k → layer_of names one word
      ≡ layer_of names two word
  agree_at k same word p found None at below =
      absurd (let no : Some word ≡ None = sym (word_there (name_words names) p word found)
      ∙ slice_get-map (λ (n : Name). n.word) names p ∙ ap (option_map (λ (n : Name). n.word)) at
      in cc)
  agree_at k same word p found (Some name) at below =
      let there = at_place p name at in
      let is : layer_of names one word ≡ layer_by rules names one name = ap (layer_at one) found
      ∙ there.0 in
      is ∙ over k same name (is_input name.kind) refl (omega (arith, is, below))
      ∙ sym (ap (layer_at two) found ∙ there.1)

  agree_by : (k : ℕ) → ((word : List ℕ) → layer_of names one word < k → layer_of names one word
      ≡ layer_of names two word)
      → (word : List ℕ) (o : Option ℕ) → place_in (name_words names) word ≡ o
      → layer_of names one word < suc k → layer_of names one word ≡ layer_of names two word
  agree_by k same word None e below = ap (layer_at one) e ∙ sym (ap (layer_at two) e)
  agree_by k same word (Some p) e below = agree_at k same word p e (slice_get names p) refl below

  agree : (k : ℕ) (word : List ℕ) → layer_of names one word < k → layer_of names one word
      ≡ layer_of names two word
  agree zero word below = absurd (omega arith)
  agree (suc k) word below = agree_by k (agree k) word (place_in (name_words names) word) refl below

  pub layerings_equal : one ≡ two
  layerings_equal = same_lists one two (first.len ∙ sym second.len)
      (λ i. elim (slice_get_cases names i).1 [
        | inl x ↦ (let there = at_place i x.0 x.2 in
            there.0 ∙ over (layer_by rules names one x.0) (agree (layer_by rules names one x.0)) x.0
            (is_input x.0.kind) refl (omega arith) ∙ sym there.1)
        | inr out ↦ get_or_past one i 0 (omega (arith, out.0, first.len))
            ∙ sym (get_or_past two i 0 (omega (arith, out.0, second.len)))
      ])
