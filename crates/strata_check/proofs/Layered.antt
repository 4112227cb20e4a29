-- Layers that were given are those of the definition, and where there are layers nothing depends on
-- itself.
use Rattle.std.proofs.Common.{◌≡◌, ℕ, zero, suc, ◌<◌, ◌≤◌, max, Bool, true, false, true≢false, ◌||◌}
use Rattle.std.proofs.Common.{List, [], ◌∷◌, map, filter_map, slice_get, slice_index_or, option_map}
use Rattle.std.proofs.Common.{Option, Some, None, refl, sym, ap, subst, ◌∙◌, arith, if◌then◌else◌}
use Rattle.std.proofs.lemmas.List.{length-map}
use Rattle.std.proofs.lemmas.Option.{slice_get_within, slice_get-map, get_or_from_slice_get}
use Rattle.std.specs.List.{cons_option}
use Rattle.std.specs.Str.{bytes_eq}
use Rattle.ground_types.specs.declared.program.Name.{Name}
use Rattle.rule_forms.specs.Forms.{PlainStatement}
use Rattle.ground_types.specs.Words.{has, place_in, name_words}
use Rattle.strata_check.specs.declared.walk.Mark.{Mark}
use Rattle.strata_check.specs.declared.walk.Mark.TheVariants as mark
use Rattle.decl_known.specs.Occurrences.{bodies_of, occurs, IsChain, NoneBefore}
use Rattle.decl_known.specs.Layers.{layer_at, layer_of, greatest, layer_by, IsLayering}
use Rattle.strata_check.specs.Rows.{row_at, places_of, AreRows}
use Rattle.strata_check.specs.Walks.{layer_by_mark, layer_in, layers_in, layer_over, IsDoneMark}
use Rattle.strata_check.specs.Walks.{AllDone}
use Rattle.decl_known.proofs.Greatest.{greatest_cons}
use Rattle.word_table.proofs.LookUps.{same_word, word_there, word_of_name}
use Rattle.strata_check.proofs.Places.{row_is}
use Rattle.strata_check.proofs.Heads.{IsHead}

abbrev pub given : List Mark → List ℕ
given ms = map (λ m. layer_by_mark (Some m)) ms

given_at : (ms : List Mark) (p : ℕ) → slice_index_or (given ms) p 0 ≡ layer_in ms p
given_at [] p = refl
given_at (m ∷ ms) zero = refl
given_at (m ∷ ms) (suc p) = given_at ms p

found_step : (ms : List Mark) (o : Option ℕ) (ps others : List ℕ) → greatest (layers_in ms ps)
    ≡ greatest others
    → greatest (layers_in ms (cons_option o ps)) ≡ greatest (layer_at (given ms) o ∷ others)
found_step ms None ps others e = e ∙ sym (greatest_cons 0 others ∙ omega arith)
found_step ms (Some p) ps others e = greatest_cons (layer_in ms p) (layers_in ms ps)
    ∙ ap (max (layer_in ms p)) e ∙ ap (λ n. max n (greatest others)) (sym (given_at ms p))
    ∙ sym (greatest_cons (slice_index_or (given ms) p 0) others)

greatest_found : (ms : List Mark) (f : List ℕ → Option ℕ) (ws : List (List ℕ))
    → greatest (layers_in ms (filter_map f ws)) ≡ greatest (map (λ w. layer_at (given ms) (f w))
    ws)
greatest_found ms f [] = refl
greatest_found ms f (w ∷ ws) = found_step ms (f w) (filter_map f ws)
    (map (λ v. layer_at (given ms) (f v)) ws) (greatest_found ms f ws)

module _ (rules : List PlainStatement) (names : List Name) (rows : List (List ℕ)) (ms : List Mark)
    (are : AreRows rules names rows) (all : AllDone names rows ms) where
  by_mark : (place : ℕ) (name : Name) → slice_get names place ≡ Some name → (o : Option Mark)
      → slice_get ms place ≡ o → IsDoneMark o → slice_get (given ms) place
      ≡ Some (layer_by rules names (given ms) name)
  by_mark place name at None e d = absurd d
  by_mark place name at (Some mark.New) e d = absurd d
  by_mark place name at (Some (mark.Open next top)) e d = absurd d
  by_mark place name at (Some (mark.Done layer)) e d =
      slice_get-map (λ m. layer_by_mark (Some m)) ms place
      ∙ ap (option_map (λ m. layer_by_mark (Some m))) e
      ∙ ap Some ((all.walking.done place layer e).is
      ∙ ap (λ o. layer_over o (greatest (layers_in ms (row_at rows place)))) at
      ∙ ap (layer_over (Some name))
      (ap (λ us. greatest (layers_in ms us))
      (row_is rows place (places_of names (bodies_of rules name.word)) (are.each place name at))
      ∙ greatest_found ms (place_in (name_words names)) (bodies_of rules name.word)))

  pub is_layering : IsLayering rules names (given ms)
  is_layering = record {
    len = length-map ms (λ m. layer_by_mark (Some m)) ∙ all.walking.few ∙ sym all.walking.named;
    each = λ place name at.
        by_mark place name at (slice_get ms place) refl
        (all.all place (omega (
          arith,
          slice_get_within names place name at,
          all.walking.few,
          all.walking.named,
        )));
  }

-- ---- no name depends on itself

among_greatest : (f : List ℕ → ℕ) (ws : List (List ℕ)) (w : List ℕ) → has ws w ≡ true
    → f w ≤ greatest (map f ws)
among_greatest f [] w h = absurd (true≢false (sym h))
among_greatest f (x ∷ ws) w h = by (bytes_eq x w) refl (among_greatest f ws w)
  where
    by : (b : Bool) → bytes_eq x w ≡ b → (has ws w ≡ true → f w ≤ greatest (map f ws))
        → f w ≤ greatest (f x ∷ map f ws)
    by true t rest =
        let same : f x ≡ f w = ap f (same_word x w t) in
        omega (arith, greatest_cons (f x) (map f ws), same)
    by false t rest =
        let low : f w ≤ greatest (map f ws) = rest (sym (ap (λ b. b || has ws w) t) ∙ h) in
        omega (arith, greatest_cons (f x) (map f ws), low)

module _ (rules : List PlainStatement) (names : List Name) (layers : List ℕ)
    (layering : IsLayering rules names layers)
    (headed : (word other : List ℕ) → occurs rules other word ≡ true → IsHead names word) where
  lower : (word other : List ℕ) → occurs rules other word ≡ true → layer_of names layers other
      < layer_of names layers word
  lower word other o =
      let h = headed word other o in
      let same : Some word ≡ Some h.name.word =
      sym (word_there (name_words names) h.place word h.found) ∙ word_of_name names h.place
      h.name h.at in
      let word_is : word ≡ h.name.word = cc in
      let among : layer_of names layers other ≤ greatest (map (layer_of names layers)
      (bodies_of rules h.name.word)) =
      among_greatest (layer_of names layers) (bodies_of rules h.name.word) other
      (subst (λ w. occurs rules other w ≡ true) word_is o) in
      let is : layer_of names layers word
      ≡ suc (greatest (map (layer_of names layers) (bodies_of rules h.name.word))) =
      ap (layer_at layers) h.found
      ∙ get_or_from_slice_get layers h.place (layer_by rules names layers h.name) 0
      (layering.each h.place h.name h.at)
      ∙ ap (λ b. if b then 0 else suc (greatest (map (layer_of names layers)
      (bodies_of rules h.name.word)))) h.computed in
      omega (arith, among, is)

  falls : (word : List ℕ) (between : List (List ℕ)) (last : List ℕ)
      → IsChain rules word between last → layer_of names layers last < layer_of names layers word
  falls word [] last chain = lower word last chain
  falls word (next ∷ more) last chain =
      let one = lower word next chain.0 in
      let rest = falls next more last chain.1 in
      omega arith

  pub none_reaches : (place : ℕ) → NoneBefore rules names place
  none_reaches place = λ earlier name before at reaches.
      (let f = falls name.word reaches.between name.word reaches.chain in omega arith)
