-- The place of the arguments of an atom among all of its name, term by term.
use Rattle.std.proofs.Common.{◌≡◌, ℕ, suc, ◌+◌, ◌*◌, ◌<◌, ◌≤◌, ◌^◌, nat_lt, Bool, true, false, List}
use Rattle.std.proofs.Common.{[], ◌∷◌, ◌++◌, length, map, zip, fold, take, drop, get_or, slice_get}
use Rattle.std.proofs.Common.{position, Option, option_map, Some, None, refl, sym, ap, subst, ◌∙◌}
use Rattle.std.proofs.Common.{arith, if◌then◌else◌}
use Rattle.std.proofs.lemmas.Bool.{ltb-true}
use Rattle.std.proofs.lemmas.List.{length-map, take_more, take_all, take-append-drop, get_or-map}
use Rattle.std.proofs.lemmas.List.Sums.{fold-append}
use Rattle.std.proofs.lemmas.List.Quantifiers.{position-Some}
use Rattle.std.proofs.lemmas.Option.{none-some, same_Some}
use Rattle.std.specs.Str.{bytes_eq}
use Rattle.ground_types.specs.Sound.{entity_count, domain_sizes, arguments_of}
use Rattle.ground_types.specs.declared.program.Domain.{Domain}
use Rattle.ground_types.specs.declared.program.Name.{Name}
use Rattle.rule_forms.specs.declared.form.Term.{Term}
use Rattle.ground_names.specs.Counted.{capped, ranked, has_small_numbers}
use Rattle.ground_rules.specs.Assignments.{Instance}
use Rattle.ground_rules.specs.Atoms.{ground_term, ground_args}
use Rattle.ground_names.proofs.Caps.{capped_add, capped_mul, capped_small}
use Rattle.ground_names.proofs.Ranks.{no_rank, rank_is_position, no_position}

-- ---- ranks that stop at the greatest number

capped_rank : (place size number : ℕ) → capped (capped place * size + number)
    ≡ capped (place * size + number)
capped_rank place size number =
    sym (capped_add (capped place * size) number) ∙ ap (λ n. capped (n + number))
    (capped_mul place size) ∙ capped_add (place * size) number

capped_by : (b : Bool) (place size number : ℕ)
    → option_map capped (if b then Some (capped place * size + number) else None)
    ≡ option_map capped (if b then Some (place * size + number) else None)
capped_by true place size number = ap Some (capped_rank place size number)
capped_by false place size number = refl

ranked_capped : (o : Option ℕ) (place : ℕ) (x : ℕ × ℕ) → Some place ≡ option_map capped o
    → option_map capped (ranked (Some place) x) ≡ option_map capped (ranked o x)
ranked_capped None place x e = absurd (none-some place (sym e))
ranked_capped (Some p) place (size, number) e =
    ap (λ n. option_map capped (ranked (Some n) (size, number))) (same_Some place (capped p) e)
    ∙ capped_by (nat_lt number size) p size number

pub no_capped : (o : Option ℕ) → option_map capped o ≡ None → o ≡ None
no_capped None e = refl
no_capped (Some p) e = absurd (none-some (capped p) (sym e))

-- ---- one pair of a size and a number more

module _ (pairs : List (ℕ × ℕ)) where
  abbrev rank_to : ℕ → Option ℕ
  rank_to n = fold ranked (Some 0) (take n pairs)

  next_rank : (n : ℕ) (x : ℕ × ℕ) → n < length pairs → get_or pairs n x ≡ x → ranked (rank_to n) x
      ≡ rank_to (n + 1)
  next_rank n x inside at =
      sym (ap (fold ranked (Some 0)) (take_more pairs n x inside ∙ ap (λ y. take n pairs ++ y ∷ [])
      at)
      ∙ fold-append ranked (Some 0) (take n pairs) (x ∷ []))

  no_rank_beyond : (n : ℕ) → rank_to n ≡ None → fold ranked (Some 0) pairs ≡ None
  no_rank_beyond n e =
      ap (fold ranked (Some 0)) (sym (take-append-drop n pairs))
      ∙ fold-append ranked (Some 0) (take n pairs) (drop n pairs)
      ∙ ap (λ o. fold ranked o (drop n pairs)) e ∙ no_rank (drop n pairs)

-- ---- terms over domains

module _ (domains : List Domain) (i : Instance) where
  abbrev pub pair_of : Term × ℕ → ℕ × ℕ
  pair_of place = (entity_count (slice_get domains place.1), ground_term i place.0 place.1)

  pairs_zipped : (terms : List Term) (ds : List ℕ)
      → zip (domain_sizes domains ds) (map (λ (place : Term × ℕ). ground_term i place.0 place.1)
      (zip terms ds)) ≡ map pair_of (zip terms ds)
  pairs_zipped [] [] = refl
  pairs_zipped [] (d ∷ ds) = refl
  pairs_zipped (t ∷ ts) [] = refl
  pairs_zipped (t ∷ ts) (d ∷ ds) = ap (λ ps. pair_of (t, d) ∷ ps) (pairs_zipped ts ds)

  as_many : (terms : List Term) (ds : List ℕ) → length ds ≤ length terms → length (zip terms ds)
      ≡ length ds
  as_many [] [] h = refl
  as_many [] (d ∷ ds) h = absurd (omega (arith, h))
  as_many (t ∷ ts) [] h = refl
  as_many (t ∷ ts) (d ∷ ds) h = ap (λ n. suc n) (as_many ts ds (omega (arith, h)))

  fewer : (terms : List Term) (ds : List ℕ) → length (zip terms ds) ≤ length terms
  fewer [] [] = omega arith
  fewer [] (d ∷ ds) = omega arith
  fewer (t ∷ ts) [] = omega arith
  fewer (t ∷ ts) (d ∷ ds) = let rest = fewer ts ds in omega (arith, rest)

  module _ (name : Name) (terms : List Term) where
    abbrev pub the_place : Option ℕ
    the_place = position (bytes_eq (ground_args i name terms)) (arguments_of domains name)

    abbrev pub the_pairs : List (ℕ × ℕ)
    the_pairs = map pair_of (zip terms name.args)

    args_count : length (ground_args i name terms) ≡ length (zip terms name.args)
    args_count = length-map (zip terms name.args) (λ (place : Term × ℕ). ground_term i place.0
        place.1)

    sizes_count : length (domain_sizes domains name.args) ≡ length name.args
    sizes_count = length-map name.args (λ d. entity_count (slice_get domains d))

    ranks_all : length name.args ≤ length terms → fold ranked (Some 0) the_pairs ≡ the_place
    ranks_all enough =
        ap (fold ranked (Some 0)) (sym (pairs_zipped terms name.args))
        ∙ rank_is_position (domain_sizes domains name.args) (ground_args i name terms) (args_count
        ∙ as_many terms name.args enough ∙ sym sizes_count)

    -- too few terms have no place
    pub too_few : length terms < length name.args → None ≡ option_map capped the_place
    too_few few =
        let most = fewer terms name.args in
        let one = args_count in
        let two = sizes_count in
        sym (ap (option_map capped) (no_position (domain_sizes domains name.args)
        (ground_args i name terms) (λ e. omega (arith, few, most, one, two, e))))

    -- one term more
    pub one_more_ranked : (n m : ℕ) (x : Term × ℕ) (place : ℕ) (next : Option ℕ)
        → (n < length (zip terms name.args)) × (x ≡ get_or (zip terms name.args) n x) → m ≡ n + 1
        → next ≡ option_map capped (ranked (Some place) (pair_of x))
        → Some place ≡ option_map capped (rank_to the_pairs n)
        → next ≡ option_map capped (rank_to the_pairs m)
    one_more_ranked n m x place next at more is held =
        let inside : n < length the_pairs =
        subst (λ k. n < k) (sym (length-map (zip terms name.args) pair_of)) at.0 in
        is ∙ ranked_capped (rank_to the_pairs n) place (pair_of x) held
        ∙ ap (option_map capped) (next_rank the_pairs n (pair_of x) inside
        (get_or-map pair_of (zip terms name.args) n x (pair_of x) at.0 ∙ ap pair_of (sym at.1))
        ∙ ap (rank_to the_pairs) (sym more))

    -- a term without a place leaves the arguments without one
    pub none_ranked : (m : ℕ) → length name.args ≤ length terms
        → None ≡ option_map capped (rank_to the_pairs m) → None ≡ option_map capped the_place
    none_ranked m enough e =
        sym (ap (option_map capped) (sym (ranks_all enough) ∙ no_rank_beyond the_pairs m
        (no_capped (rank_to the_pairs m) (sym e))))

    pub all_ranked : (n place : ℕ) → length name.args ≤ length terms
        → n ≡ length (zip terms name.args) → Some place ≡ option_map capped (rank_to the_pairs n)
        → Some place ≡ option_map capped the_place
    all_ranked n place enough end held =
        let count : length the_pairs ≤ n = let same = length-map (zip terms name.args) pair_of in
        omega (arith, same, end) in
        held ∙ ap (λ ps. option_map capped (fold ranked (Some 0) ps)) (take_all n the_pairs count)
        ∙ ap (option_map capped) (ranks_all enough)

-- ---- small numbers

module _ {X : Type 0} (p : X → Bool) (xs : List X) (d : X) (first place : ℕ)
    (small : first + length xs < 2 ^ 32) where
  small_by : (o : Option ℕ) → position p xs ≡ o → option_map capped o ≡ Some place
      → (position p xs ≡ Some place) × (first + place < 2 ^ 32)
  small_by None is e = absurd (none-some place e)
  small_by (Some k) is e =
      let inside = (position-Some p xs k d is).0 in
      let same : k ≡ place = sym (capped_small k (omega (arith, inside, small)))
      ∙ same_Some (capped k) place e in
      (is ∙ ap Some same, omega (arith, inside, small, same))

  -- a place with a small number is told as it is
  pub place_small : option_map capped (position p xs) ≡ Some place → (position p xs ≡ Some place)
      × (first + place < 2 ^ 32)
  place_small e = small_by (position p xs) refl e

-- the number of arguments is that of their place behind the first
pub told_place : (domains : List Domain) (i : Instance) (name : Name) (terms : List Term)
    (place : ℕ) → has_small_numbers domains name ≡ true
    → option_map capped (the_place domains i name terms) ≡ Some place
    → (the_place domains i name terms ≡ Some place) × (name.first + place < 2 ^ 32)
told_place domains i name terms place small e =
    place_small (bytes_eq (ground_args i name terms)) (arguments_of domains name) [] name.first
    place (ltb-true (name.first + length (arguments_of domains name)) (2 ^ 32) small) e
