-- Names by the places of their words.
use Rattle.std.proofs.Common.{◌≡◌, inl, inr, ℕ, zero, suc, ◌+◌, ◌<◌, nat_lt, Bool, true, false}
use Rattle.std.proofs.Common.{true≢false, not, cond, ◌||◌, ◌&&◌, List, [], ◌∷◌, ◌++◌, length, map}
use Rattle.std.proofs.Common.{filter_map, flat_map, set, take, slice_get, get_or, Option, Some}
use Rattle.std.proofs.Common.{None, refl, sym, ap, subst, ◌∙◌, arith, if◌then◌else◌, option_map}
use Rattle.std.proofs.Common.{append-nil}
use Rattle.std.proofs.lemmas.Bool.Decides.{nat_tests}
use Rattle.std.proofs.lemmas.List.{length-set, append_assoc, take_more, flat_map_more}
use Rattle.std.proofs.lemmas.List.Elements.{filter_map-append}
use Rattle.std.proofs.lemmas.List.Quantifiers.{position-Some}
use Rattle.std.proofs.lemmas.Option.{slice_get_within, slice_get-get_or, slice_get-map}
use Rattle.std.proofs.lemmas.Option.{get_or_from_slice_get}
use Rattle.std.proofs.lemmas.Slice.Eq.{bytes_eq-Decides}
use Rattle.std.specs.List.{list_any, position_or_len, cons_option}
use Rattle.std.specs.Str.{bytes_eq}
use Rattle.ground_types.specs.declared.program.Name.{Name}
use Rattle.ground_types.specs.Sound.{is_distinct}
use Rattle.rule_forms.specs.Forms.{PlainForm, PlainStatement, conditions_of}
use Rattle.ground_types.specs.Words.{place_in, name_words}
use Rattle.decl_known.specs.Mentions.{Mention, head_of, body_mentions, leaves_of}
use Rattle.decl_known.specs.declared.mentions.Mention.{Mention as Lent}
use Rattle.decl_known.specs.Gathered.{mentions_of}
use Rattle.decl_known.specs.Occurrences.{defines, body_of, bodies_of}
use Rattle.strata_check.specs.Rows.{row_at, places_of, mention_places, body_places, add_at}
use Rattle.strata_check.specs.Rows.{with_rule, AreRows}
use Rattle.word_table.proofs.LookUps.{same_word, equal_word, place_here, word_there, word_of_name}
use Rattle.strata_check.proofs.Marks.{set_cases, set_same}
use Rattle.strata_check.proofs.Heads.{HasHead, no_head, one_head, heads}

-- ---- the names of atoms that are lent

pub names_lent : (names : List Name) (ms : List Lent)
    → filter_map (λ m. place_in (name_words names) m.atom.now.name) ms
    ≡ mention_places names (mentions_of ms)
names_lent names [] = refl
names_lent names (m ∷ ms) = ap (cons_option (place_in (name_words names) m.atom.now.name))
    (names_lent names ms)

-- ---- rows, one rule after the other

places_of_mentions : (names : List Name) (ms : List Mention)
    → places_of names (map (λ m. m.atom.name) ms) ≡ mention_places names ms
places_of_mentions names [] = refl
places_of_mentions names (m ∷ ms) = ap (cons_option (place_in (name_words names) m.atom.name))
    (places_of_mentions names ms)

pub row_is : (rows : List (List ℕ)) (place : ℕ) (row : List ℕ) → slice_get rows place ≡ Some row
    → row_at rows place ≡ row
row_is rows place row e = get_or_from_slice_get rows place row [] e

module _ (names : List Name) (distinct : is_distinct (name_words names) ≡ true)
    (rows : List (List ℕ)) (place : ℕ) (name : Name) (at : slice_get names place ≡ Some name)
    (row : List ℕ) (held : slice_get rows place ≡ Some row) (form : PlainForm) where
  abbrev added : Bool → List ℕ
  added b = places_of names (if b then body_of form else [])

  keeps : (b : Bool) → b ≡ false → Some row ≡ Some (row ++ added b)
  keeps b e = ap Some (sym (append-nil row) ∙ ap (λ c. row ++ added c) (sym e))

  takes : (b : Bool) → b ≡ true → Some (row ++ body_places names form) ≡ Some (row ++ added b)
  takes b e = ap Some (ap (λ l. row ++ l)
      (sym (places_of_mentions names (flat_map body_mentions (conditions_of form) ++ leaves_of
      form))) ∙ ap (λ c. row ++ added c) (sym e))

  here : place_in (name_words names) name.word ≡ Some place
  here = place_here (name_words names) place name.word distinct (word_of_name names place name at)

  -- of a head with this place or none
  by_place : (w : List ℕ) (o : Option ℕ) → place_in (name_words names) w ≡ o → (b : Bool)
      → bytes_eq w name.word ≡ b
      → slice_get (add_at rows (cons_option o []) (body_places names form)) place
      ≡ Some (row ++ added b)
  by_place w None e true f =
      absurd (let no : place_in (name_words names) w ≡ Some place =
      ap (place_in (name_words names)) (same_word w name.word f) ∙ here in cc)
  by_place w None e false f = held ∙ keeps false refl
  by_place w (Some p) e true f =
      let found : Some p ≡ Some place = sym e ∙ ap (place_in (name_words names))
      (same_word w name.word f) ∙ here in
      let same : p ≡ place = cc in
      let old : row_at rows p ≡ row = ap (row_at rows) same ∙ row_is rows place row held in
      ap (λ q. slice_get (set rows q (row_at rows p ++ body_places names form)) place) same
      ∙ set_same rows place row (row_at rows p ++ body_places names form) held
      ∙ ap (λ l. Some (l ++ body_places names form)) old
      ∙ takes true refl
  by_place w (Some p) e false f = elim (set_cases rows p (row_at rows p ++ body_places names form)
      place) [
        | inl q ↦ q ∙ held ∙ keeps false refl
        | inr q ↦ absurd (let there : Some name.word ≡ Some w =
            sym (word_of_name names place name at)
            ∙ ap (slice_get (name_words names)) q.0 ∙ word_there (name_words names) p w e in
            let same : w ≡ name.word = cc in
            true≢false (sym (equal_word w name.word same) ∙ f))
      ]

  by_heads : HasHead form → slice_get (with_rule names rows form) place
      ≡ Some (row ++ added (defines name.word form))
  by_heads (no_head e) =
      ap (λ hs. slice_get (add_at rows (mention_places names hs) (body_places names form)) place) e
      ∙ held
      ∙ keeps (defines name.word form) (ap (list_any (λ m. bytes_eq m.atom.name name.word)) e)
  by_heads (one_head m e computed) =
      let test : defines name.word form ≡ bytes_eq m.atom.name name.word =
      ap (list_any (λ k. bytes_eq k.atom.name name.word)) e
      ∙ or_false (bytes_eq m.atom.name name.word) in
      ap (λ hs. slice_get (add_at rows (mention_places names hs) (body_places names form)) place) e
      ∙ by_place m.atom.name (place_in (name_words names) m.atom.name) refl
      (bytes_eq m.atom.name name.word) refl
      ∙ ap (λ b. Some (row ++ added b)) (sym test)
    where
      or_false : (b : Bool) → (b || false) ≡ b
      or_false true = refl
      or_false false = refl

  pub row_with_rule : slice_get (with_rule names rows form) place
      ≡ Some (row ++ added (defines name.word form))
  row_with_rule = by_heads (heads form)

add_length : (rows : List (List ℕ)) (hs more : List ℕ) → length (add_at rows hs more) ≡ length rows
add_length rows [] more = refl
add_length rows (h ∷ hs) more = length-set rows h (row_at rows h ++ more)

pub one_more_rule : (names : List Name) (rows now : List (List ℕ)) (rs all : List PlainStatement)
    (s : PlainStatement) → is_distinct (name_words names) ≡ true → AreRows rs names rows
    → now ≡ with_rule names rows s.form → all ≡ rs ++ s ∷ [] → AreRows all names now
one_more_rule names rows now rs all s distinct are with more =
    subst (λ l. AreRows l names now) (sym more) (subst (AreRows (rs ++ s ∷ []) names) (sym with)
    (record {
      len = add_length rows (mention_places names (head_of s.form)) (body_places names s.form)
          ∙ are.len;
      each = λ place name at.
          row_with_rule names distinct rows place name at
          (places_of names (bodies_of rs name.word)) (are.each place name at) s.form
          ∙ ap Some (sym (filter_map-append (place_in (name_words names)) (bodies_of rs name.word)
          (if defines name.word s.form then body_of s.form else []))
          ∙ ap (places_of names) (flat_map_more (λ r. if defines name.word r.form
          then body_of r.form else []) [] rs s));
    }))
