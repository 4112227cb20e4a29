-- Ways from place to place are chains of names.
use Rattle.std.proofs.Common.{◌≡◌, inl, inr, ℕ, zero, suc, ◌<◌, Bool, true, false, true≢false, ◌||◌}
use Rattle.std.proofs.Common.{List, [], ◌∷◌, length, filter_map, slice_get, get_or, Option, Some}
use Rattle.std.proofs.Common.{None, refl, sym, ap, subst, ◌∙◌, arith}
use Rattle.std.proofs.lemmas.List.{length-map, get_or_past}
use Rattle.std.proofs.lemmas.Option.{slice_get_within, slice_get-get_or, slice_get_cases}
use Rattle.std.specs.List.{cons_option}
use Rattle.std.specs.Str.{bytes_eq}
use Rattle.ground_types.specs.declared.program.Name.{Name}
use Rattle.ground_types.specs.Sound.{is_distinct}
use Rattle.rule_forms.specs.Forms.{PlainStatement}
use Rattle.ground_types.specs.Words.{has, place_in, name_words}
use Rattle.decl_known.specs.Occurrences.{bodies_of, occurs, IsChain, IsFirstCycle}
use Rattle.strata_check.specs.Rows.{row_at, NamesIt, IsWay, Leads, AreInside, IsFirstCircle}
use Rattle.strata_check.specs.Rows.{places_of, AreRows}
use Rattle.word_table.proofs.LookUps.{same_word, equal_word, place_here, word_there, word_of_name}
use Rattle.strata_check.proofs.Places.{row_is}
use Rattle.strata_check.proofs.Heads.{IsHead}

-- ---- words and their places

pub record Comes (f : List ℕ → Option ℕ) (ws : List (List ℕ)) (p : ℕ) : Type 0 where
  pub word : List ℕ
  pub found : f word ≡ Some p
  pub among : has ws word ≡ true

has_later : (w : List ℕ) (ws : List (List ℕ)) (v : List ℕ) → has ws v ≡ true → has (w ∷ ws) v ≡ true
has_later w ws v h = or_true (bytes_eq w v) (has ws v) h
  where
    or_true : (a b : Bool) → b ≡ true → (a || b) ≡ true
    or_true true b e = refl
    or_true false b e = e

module _ (f : List ℕ → Option ℕ) (p : ℕ) where
  comes_later : (w : List ℕ) (ws : List (List ℕ)) → Comes f ws p → Comes f (w ∷ ws) p
  comes_later w ws c = record {
    word = c.word;
    found = c.found;
    among = has_later w ws c.word c.among;
  }

  comes_step : (w : List ℕ) (ws : List (List ℕ)) → ((i : ℕ) → slice_get (filter_map f ws) i
      ≡ Some p → Comes f ws p)
      → (o : Option ℕ) → f w ≡ o → (i : ℕ) → slice_get (cons_option o (filter_map f ws)) i ≡ Some p
      → Comes f (w ∷ ws) p
  comes_step w ws rest None e i at = comes_later w ws (rest i at)
  comes_step w ws rest (Some q) e zero at = record {
    word = w;
    found = e ∙ at;
    among = ap (λ b. b || has ws w) (equal_word w w refl);
  }
  comes_step w ws rest (Some q) e (suc i) at = comes_later w ws (rest i at)

  pub comes : (ws : List (List ℕ)) (i : ℕ) → slice_get (filter_map f ws) i ≡ Some p → Comes f ws p
  comes [] i at = absurd (cc)
  comes (w ∷ ws) i at = comes_step w ws (comes ws) (f w) refl i at

  later : (o : Option ℕ) (ps : List ℕ) (i : ℕ) → slice_get ps i ≡ Some p → (j : ℕ)
      × (slice_get (cons_option o ps) j ≡ Some p)
  later None ps i at = (i, at)
  later (Some q) ps i at = (suc i, at)

  pub stands : (ws : List (List ℕ)) (w : List ℕ) → has ws w ≡ true → f w ≡ Some p → (i : ℕ)
      × (slice_get (filter_map f ws) i ≡ Some p)
  stands [] w h e = absurd (true≢false (sym h))
  stands (x ∷ ws) w h e = by (bytes_eq x w) refl (λ k. stands ws w k e)
    where
      by : (b : Bool) → bytes_eq x w ≡ b
          → (has ws w ≡ true → (i : ℕ) × (slice_get (filter_map f ws) i ≡ Some p)) → (i : ℕ)
          × (slice_get (cons_option (f x) (filter_map f ws)) i ≡ Some p)
      by true t rest = (
        0,
        ap (λ o. slice_get (cons_option o (filter_map f ws)) 0)
            (ap f (same_word x w t) ∙ e),
      )
      by false t rest = let r = rest (sym (ap (λ b. b || has ws w) t) ∙ h) in
          later (f x) (filter_map f ws) r.0 r.1

-- ---- ways and chains

module _ (rules : List PlainStatement) (names : List Name) (rows : List (List ℕ))
    (distinct : is_distinct (name_words names) ≡ true) (are : AreRows rules names rows) where
  row_of_name : (p : ℕ) (n : Name) → slice_get names p ≡ Some n → row_at rows p ≡ places_of names
      (bodies_of rules n.word)
  row_of_name p n at = row_is rows p (places_of names (bodies_of rules n.word)) (are.each p n at)

  comes_from : (p q : ℕ) (n : Name) → slice_get names p ≡ Some n → NamesIt rows p q
      → Comes (place_in (name_words names)) (bodies_of rules n.word) q
  comes_from p q n at names_it =
      comes (place_in (name_words names)) q (bodies_of rules n.word) names_it.0
      (sym (ap (λ l. slice_get l names_it.0) (row_of_name p n at)) ∙ names_it.1)

  -- each place that is named is that of a name
  pub inside : AreInside rows
  inside p q names_it = elim (slice_get_cases names p).1 [
    | inl x ↦ (let c = comes_from p q x.0 x.2 names_it in
        let within = slice_get_within (name_words names) q c.word (word_there (name_words names) q
        c.word c.found) in
        omega (arith, length-map names (λ n. n.word), are.len))
    | inr out ↦ (let none : row_at rows p ≡ [] =
        get_or_past rows p [] (omega (arith, out.0, are.len)) in
        absurd (let bad : slice_get {X = ℕ} [] names_it.0 ≡ Some q =
        sym (ap (λ l. slice_get l names_it.0) none) ∙ names_it.1 in cc))
  ]

  link : (p q : ℕ) (n : Name) → slice_get names p ≡ Some n → NamesIt rows p q → (m : Name)
      × (slice_get names q ≡ Some m) × (occurs rules m.word n.word ≡ true)
  link p q n at names_it =
      let c = comes_from p q n at names_it in
      let within : q < length names = omega (arith, inside p q names_it, are.len) in
      let m = get_or names q n in
      let there = slice_get-get_or names q n within in
      let same : Some c.word ≡ Some m.word = sym (word_there (name_words names) q c.word c.found)
      ∙ word_of_name names q m there in
      let word : c.word ≡ m.word = cc in
      (m, there, subst (λ w. has (bodies_of rules n.word) w ≡ true) word c.among)

  pub chain_of : (between : List ℕ) (p last : ℕ) (n l : Name) → slice_get names p ≡ Some n
      → slice_get names last ≡ Some l → IsWay rows p between last
      → (ws : List (List ℕ)) × IsChain rules n.word ws l.word
  chain_of [] p last n l at end way =
      let k = link p last n at way in
      let both : Some k.0 ≡ Some l = sym k.1 ∙ end in
      let same : k.0 ≡ l = cc in
      ([], subst (λ m. occurs rules m.word n.word ≡ true) same k.2)
  chain_of (u ∷ us) p last n l at end way =
      let k = link p u n at way.0 in
      let rest = chain_of us u last k.0 l k.1 end way.1 in
      (k.0.word ∷ rest.0, (k.2, rest.1))

  names_place : (p q : ℕ) (n : Name) (w : List ℕ) → slice_get names p ≡ Some n
      → place_in (name_words names) w ≡ Some q → occurs rules w n.word ≡ true → NamesIt rows p q
  names_place p q n w at found o =
      let s = stands (place_in (name_words names)) q (bodies_of rules n.word) w o found in
      (s.0, ap (λ l. slice_get l s.0) (row_of_name p n at) ∙ s.1)

  module _ (headed : (word other : List ℕ) → occurs rules other word ≡ true → IsHead names word)
    where
      first_head : (w : List ℕ) (ws : List (List ℕ)) (l : List ℕ) → IsChain rules w ws l
          → IsHead names w
      first_head w [] l chain = headed w l chain
      first_head w (v ∷ ws) l chain = headed w v chain.0

      pub way_of : (ws : List (List ℕ)) (p last : ℕ) (n l : Name) → slice_get names p ≡ Some n
          → slice_get names last ≡ Some l → IsChain rules n.word ws l.word → Leads rows p last
      way_of [] p last n l at end chain = (
        [],
        names_place p last n l.word at
            (place_here (name_words names) last l.word distinct (word_of_name names last l end))
            chain,
      )
      way_of (w ∷ ws) p last n l at end chain =
          let h = first_head w ws l.word chain.1 in
          let same : Some w ≡ Some h.name.word =
          sym (word_there (name_words names) h.place w h.found) ∙ word_of_name names h.place h.name
          h.at in
          let word : w ≡ h.name.word = cc in
          let rest = way_of ws h.place last h.name l h.at end
          (subst (λ v. IsChain rules v ws l.word)
          word chain.1) in
          (h.place ∷ rest.0, (names_place p h.place n w at h.found chain.0, rest.1))

      -- the first place that leads to itself is that of the first name that does
      pub first_cycle : (place line : ℕ) (name : Name) → IsFirstCircle rows place
          → slice_get names place ≡ Some name → line ≡ name.line → IsFirstCycle rules names place
          line
      first_cycle place line name first at line_is =
          let chain = chain_of first.leads.0 place place name name at at first.leads.1 in
          record {
            name = name;
            at = at;
            line_is = line_is;
            reaches = record { between = chain.0; chain = chain.1 };
            none_before = λ earlier other before there reaches. first.none_before earlier before
                (way_of reaches.between earlier earlier other other there there reaches.chain);
          }
