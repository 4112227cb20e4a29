-- Words lead to what they name.
use Rattle.std.proofs.Common.{◌≡◌, ◌⊎◌, inl, inr, get_or, ℕ, zero, suc, ◌+◌, ◌*◌, ◌^◌, ◌<◌, ◌≤◌}
use Rattle.std.proofs.Common.{Bool, true, false, ◌==◌, cond, if◌then◌else◌, List, [], ◌∷◌, ◌++◌}
use Rattle.std.proofs.Common.{length, fold, zip, slice_get, position, Option, Some, None}
use Rattle.std.proofs.Common.{option_map, option_and_then, IfSome, refl, sym, ap, ap₂, subst, ◌∙◌}
use Rattle.std.proofs.Common.{arith}
use Rattle.std.specs.List.{list_all, position_or_len}
use Rattle.std.specs.Str.{bytes_eq}
use Rattle.std.proofs.lemmas.Bool.{lt-ltb, ltb-true, le-ltb, eq-eqb, ne_eqb, and_parts}
use Rattle.std.proofs.lemmas.Option.{none-some, same_Some, slice_get_cases}
use Rattle.std.proofs.lemmas.List.{length-map}
use Rattle.std.proofs.lemmas.List.Folds.{find_at}
use Rattle.std.proofs.lemmas.List.Quantifiers.{position-Some}
use Rattle.ground_types.specs.Sound.{entity_count, domain_sizes, argument_lists, arguments_of}
use Rattle.ground_types.specs.declared.program.Domain.{Domain}
use Rattle.ground_types.specs.declared.program.Name.{Name}
use Rattle.ground_types.specs.declared.program.NameKind.{NameKind}
use Rattle.ground_types.specs.declared.program.Program.{Program}
use Rattle.ground_types.specs.Words.{place_in, declaration, entities_in, entities_of}
use Rattle.ground_names.specs.Numbers.{number_of}
use Rattle.ground_names.specs.Counted.{capped, ranked, has_small_numbers}
use Rattle.ground_names.specs.Found.{Asked, entities_named}
use Rattle.ground_names.specs.Reached.{begun, with_argument, next_domain, stepped, how_far}
use Rattle.ground_names.specs.Reached.{number_by, number_at, number_with, named}
use Rattle.ground_names.specs.declared.finder.Reached.{Reached}
use Rattle.ground_names.proofs.Caps.{capped_mul, capped_add, capped_small}
use Rattle.ground_names.proofs.Ranks.{rank_is_position}

-- ---- entities

pub count_is : (o : Option Domain) → entity_count o ≡ length (entities_in o)
count_is None = refl
count_is (Some domain) = refl

place_inside : (words : List (List ℕ)) (word : List ℕ) (n : ℕ) → place_in words word ≡ Some n
    → n < length words
place_inside words word n e = (position-Some (λ other. bytes_eq other word) words n [] e).0

abbrev IsLong : ℕ → Option (List ℕ) → Type 0
IsLong m o = IfSome o (λ es. length es ≡ m)

entities_long : (domains : List Domain) (ds : List ℕ) (words : List (List ℕ))
    → IsLong (length ds) (entities_named domains ds words)
entities_long domains [] [] = refl
entities_long domains [] (w ∷ ws) = tt
entities_long domains (d ∷ ds) [] = tt
entities_long domains (d ∷ ds) (w ∷ ws) = by (place_in (entities_of domains d) w)
    (entities_named domains ds ws) (entities_long domains ds ws)
  where
    by : (o : Option ℕ) (rest : Option (List ℕ)) → IsLong (length ds) rest
        → IsLong (suc (length ds)) (option_and_then (λ entity. option_map (λ rest. entity ∷ rest)
        rest) o)
    by None rest h = tt
    by (Some entity) None h = tt
    by (Some entity) (Some es) h = ap suc h

-- ---- one argument after the other

led_nowhere : (program : Program) (words : List (List ℕ)) → fold (stepped program) None words ≡ None
led_nowhere program [] = refl
led_nowhere program (w ∷ ws) = led_nowhere program ws

module _ (program : Program) (name : Name) (n : ℕ) (at : slice_get program.names n ≡ Some name)
  where
    abbrev at_place : ℕ → ℕ → Reached
    at_place k p = record { name = n; count = k; place = capped p }

    abbrev numbered_by : Option ℕ → Option (NameKind × ℕ)
    numbered_by place = option_map (λ place. (name.kind, name.first + place)) place

    -- the place of the arguments with these entities
    abbrev rest_by : ℕ → List ℕ → Option (List ℕ) → Option ℕ
    rest_by p ds None = None
    rest_by p ds (Some es) = option_map capped
        (fold ranked (Some p) (zip (domain_sizes program.domains ds) es))

    next_is : (k p : ℕ) → next_domain program (at_place k p) ≡ slice_get name.args k
    next_is k p = ap (option_and_then (λ (x : Name). slice_get x.args k)) at

    ends : (k p : ℕ) (b : Bool) → (k == length name.args) ≡ b → number_at program (at_place k p)
        ≡ (if b then Some (name.kind, name.first + capped p) else None)
    ends k p b e =
        ap (option_and_then (number_by (at_place k p))) at
        ∙ ap (λ b. if b then Some (name.kind, name.first + capped p) else None) e

    goes_on : (k p : ℕ) (w : List ℕ) (ws : List (List ℕ)) (o : Option ℕ) → slice_get name.args k ≡ o
        → option_and_then (number_at program) (fold (stepped program) (Some (at_place k p))
        (w ∷ ws))
        ≡ option_and_then (number_at program)
        (fold (stepped program) (option_and_then (with_argument program (at_place k p) w) o) ws)
    goes_on k p w ws o e =
        ap (λ o. option_and_then (number_at program)
        (fold (stepped program) (option_and_then (with_argument program (at_place k p) w) o) ws))
        (next_is k p ∙ e)

    differs : (a b : ℕ) → a < b → (a == b) ≡ false
    differs a b h = ne_eqb a b (λ e. omega (arith, h, e))

    one_more : (p d entity : ℕ) (ds : List ℕ) → entity < entity_count (slice_get program.domains d)
        → (o : Option (List ℕ))
        → rest_by (p * entity_count (slice_get program.domains d) + entity) ds o
        ≡ rest_by p (d ∷ ds)
        (option_map (λ rest. entity ∷ rest) o)
    one_more p d entity ds below None = refl
    one_more p d entity ds below (Some es) =
        ap (λ b. option_map capped (fold ranked (if b
        then Some (p * entity_count (slice_get program.domains d) + entity) else None)
        (zip (domain_sizes program.domains ds) es)))
        (sym (lt-ltb entity (entity_count (slice_get program.domains d)) below))

    capped_next : (p size entity : ℕ) → capped (capped p * size + entity)
        ≡ capped (p * size + entity)
    capped_next p size entity =
        sym (capped_add (capped p * size) entity) ∙ ap (λ m. capped (m + entity))
        (capped_mul p size)
        ∙ capped_add (p * size) entity

    from_here : (ds : List ℕ) (words : List (List ℕ)) (k p : ℕ)
        → ((i : ℕ) → slice_get name.args (k + i) ≡ slice_get ds i)
        → k + length ds ≡ length name.args
        → option_and_then (number_at program) (fold (stepped program) (Some (at_place k p)) words)
        ≡ numbered_by (rest_by p ds (entities_named program.domains ds words))
    from_here [] [] k p same long = ends k p true (eq-eqb k (length name.args)
        (omega (arith, long)))
    from_here [] (w ∷ ws) k p same long =
        let here : k ≡ k + 0 = omega arith in
        goes_on k p w ws None (ap (slice_get name.args) here ∙ same 0)
        ∙ ap (option_and_then (number_at program)) (led_nowhere program ws)
    from_here (d ∷ ds) [] k p same long = ends k p false (differs k (length name.args)
        (omega (arith, long)))
    from_here (d ∷ ds) (w ∷ ws) k p same long =
        let here : k ≡ k + 0 = omega arith in
        goes_on k p w ws (Some d) (ap (slice_get name.args) here ∙ same 0)
        ∙ by (place_in (entities_of program.domains d) w) refl (λ m. from_here ds ws (k + 1) m
        (λ i. ap (slice_get name.args) (next i) ∙ same (suc i)) (omega (arith, long)))
      where
        next : (i : ℕ) → k + 1 + i ≡ k + suc i
        next i = omega arith

        size : ℕ
        size = length (entities_of program.domains d)

        others : Option (List ℕ)
        others = entities_named program.domains ds ws

        by : (o : Option ℕ) → place_in (entities_of program.domains d) w ≡ o
            → ((m : ℕ) → option_and_then (number_at program)
            (fold (stepped program) (Some (at_place (k + 1) m)) ws)
            ≡ numbered_by (rest_by m ds others))
            → option_and_then (number_at program)
            (fold (stepped program) (option_map (λ entity. record {
              name = n;
              count = k + 1;
              place = capped (capped p * size + entity);
            }) o) ws)
            ≡ numbered_by (rest_by p (d ∷ ds)
            (option_and_then (λ entity. option_map (λ rest. entity ∷ rest) others) o))
        by None e rest = ap (option_and_then (number_at program)) (led_nowhere program ws)
        by (Some entity) e rest =
            let inside : entity < size = place_inside (entities_of program.domains d) w entity e in
            let count : entity_count (slice_get program.domains d) ≡ size =
            count_is (slice_get program.domains d) in
            ap (λ m. option_and_then (number_at program)
            (fold (stepped program) (Some (record { name = n; count = k + 1; place = m })) ws))
            (ap (λ s. capped (capped p * s + entity)) (sym count)
            ∙ capped_next p (entity_count (slice_get program.domains d)) entity)
            ∙ rest (p * entity_count (slice_get program.domains d) + entity)
            ∙ ap numbered_by (one_more p d entity ds (omega (arith, inside, count)) others)

    -- what the entities' places come to
    numbers : (o : Option (List ℕ)) → IsLong (length name.args) o
        → has_small_numbers program.domains
        name ≡ true
        → numbered_by (rest_by 0 name.args o) ≡ option_map (λ number. (name.kind, number))
        (option_and_then (number_of program.domains name) o)
    numbers None long small = refl
    numbers (Some es) long small =
        let sizes = domain_sizes program.domains name.args in
        ap (λ o. numbered_by (option_map capped o)) (rank_is_position sizes es (long
        ∙ sym (length-map name.args (λ d. entity_count (slice_get program.domains d)))))
        ∙ by (position (bytes_eq es) (argument_lists sizes)) refl
      where
        by : (o : Option ℕ) → position (bytes_eq es) (arguments_of program.domains name) ≡ o
            → numbered_by (option_map capped o) ≡ option_map (λ number. (name.kind, number))
            (option_map (λ place. name.first + place) o)
        by None e = refl
        by (Some place) e =
            let inside : place < length (arguments_of program.domains name) =
            (position-Some (bytes_eq es) (arguments_of program.domains name) place [] e).0 in
            let few : name.first + length (arguments_of program.domains name) < 2 ^ 32 =
            ltb-true (name.first + length (arguments_of program.domains name)) (2 ^ 32) small in
            ap (λ m. Some (name.kind, name.first + m))
            (capped_small place (omega (arith, inside, few)))

    -- the number fits
    fits : (o : Option (List ℕ)) → has_small_numbers program.domains name ≡ true
        → IfSome {T = NameKind × ℕ} (option_map (λ number. (name.kind, number))
        (option_and_then (number_of program.domains name) o)) (λ found. found.1 < 2 ^ 32)
    fits None small = tt
    fits (Some es) small = by (position (bytes_eq es) (arguments_of program.domains name)) refl
      where
        by : (o : Option ℕ) → position (bytes_eq es) (arguments_of program.domains name) ≡ o
            → IfSome {T = NameKind × ℕ} (option_map (λ number. (name.kind, number))
            (option_map (λ place. name.first + place) o)) (λ found. found.1 < 2 ^ 32)
        by None e = tt
        by (Some place) e =
            let inside : place < length (arguments_of program.domains name) =
            (position-Some (bytes_eq es) (arguments_of program.domains name) place [] e).0 in
            let few : name.first + length (arguments_of program.domains name) < 2 ^ 32 =
            ltb-true (name.first + length (arguments_of program.domains name)) (2 ^ 32) small in
            omega (arith, inside, few)

    all_of_it : (args : List (List ℕ)) → has_small_numbers program.domains name ≡ true
        → option_and_then (number_at program) (fold (stepped program) (Some (at_place 0 0)) args)
        ≡ number_with program args name
    all_of_it args small =
        from_here name.args args 0 0 (λ i. ap (slice_get name.args) (from_zero i)) (omega arith)
        ∙ numbers (entities_named program.domains name.args args) (entities_long program.domains
        name.args args) small
      where
        from_zero : (i : ℕ) → 0 + i ≡ i
        from_zero i = omega arith

-- ---- the name

all_at : {A : Type 0} (p : A → Bool) (xs : List A) (i : ℕ) (x : A) → list_all p xs ≡ true
    → slice_get xs i ≡ Some x → p x ≡ true
all_at p [] i x all e = absurd (none-some x e)
all_at p (y ∷ ys) zero x all e = ap p (sym (same_Some y x e))
    ∙ (and_parts (p y) (list_all p ys) all).0
all_at p (y ∷ ys) (suc i) x all e = all_at p ys i x (and_parts (p y) (list_all p ys) all).1 e

module _ (program : Program) (word : List ℕ) (args : List (List ℕ))
    (small : list_all (has_small_numbers program.domains) program.names ≡ true) where
  abbrev test : Name → Bool
  test name = bytes_eq name.word word

  abbrev first : ℕ
  first = position_or_len test program.names

  -- what a search gives, and what is declared
  record IsSearch (place : Option ℕ) (declared : Option Name) : Type 0 where
    leads : option_and_then (number_at program)
        (fold (stepped program) (option_map (λ name. record { name = name; count = 0; place = 0 })
        place) args)
        ≡ option_and_then (number_with program args) declared
    fit : IfSome (option_and_then (number_with program args) declared) (λ found. found.1 < 2 ^ 32)

  searched : ((x : Name) × (first < length program.names)
      × (slice_get program.names first ≡ Some x) × (get_or program.names first x ≡ x))
      ⊎ ((length program.names ≤ first) × (slice_get program.names first ≡ None))
      → IsSearch (position test program.names) (declaration program.names word)
  searched (inl (name, inside, at, same)) =
      let declared : Some name ≡ declaration program.names word = sym (find_at test program.names
      ∙ at) in
      let found : Some first ≡ position test program.names =
      sym (ap (λ b. cond b (Some first) None) (lt-ltb first (length program.names) inside)) in
      let few : has_small_numbers program.domains name ≡ true =
      all_at (has_small_numbers program.domains) program.names first name small at in
      subst (λ o. IsSearch o (declaration program.names word)) found (subst (IsSearch (Some first))
      declared (record {
        leads = all_of_it program name first at args few;
        fit = fits program name first at (entities_named program.domains name.args args) few;
      }))
  searched (inr (past, at)) =
      let declared : None ≡ declaration program.names word = sym (find_at test program.names ∙ at)
      in
      let found : None ≡ position test program.names =
      sym (ap (λ b. cond b (Some first) None) (le-ltb first (length program.names) past)) in
      subst (λ o. IsSearch o (declaration program.names word)) found
      (subst (IsSearch None) declared (record {
        leads = ap (option_and_then (number_at program)) (led_nowhere program args);
        fit = tt;
      }))

  search : IsSearch (position test program.names) (declaration program.names word)
  search = searched (slice_get_cases program.names first).1

-- words lead to what they name
pub led : (asked : Asked) → list_all (has_small_numbers asked.program.domains) asked.program.names
    ≡ true → option_and_then (number_at asked.program) (how_far asked) ≡ named asked
led asked small = (search asked.program asked.word asked.args small).leads

-- its number fits
pub named_fits : (asked : Asked) → list_all (has_small_numbers asked.program.domains)
    asked.program.names ≡ true → IfSome (named asked) (λ found. found.1 < 2 ^ 32)
named_fits asked small = (search asked.program asked.word asked.args small).fit

-- ---- one word after the other

pub begins : (program : Program) (word : List ℕ) → begun program word
    ≡ how_far (record { program = program; word = word; args = [] })
begins program word = refl

pub goes_further : (asked : Asked) (word : List ℕ) → stepped asked.program (how_far asked) word
    ≡ how_far (record {
      program = asked.program;
      word = asked.word;
      args = asked.args ++ word
          ∷ [];
    })
goes_further asked word = by (begun asked.program asked.word) asked.args
  where
    by : (o : Option Reached) (args : List (List ℕ))
        → stepped asked.program (fold (stepped asked.program) o args) word
        ≡ fold (stepped asked.program) o (args ++ word ∷ [])
    by o [] = refl
    by o (a ∷ args) = by (stepped asked.program o a) args

-- ---- what is known of a finder

-- the names of the program of what was asked have small numbers
abbrev pub HasSmall : Asked → Type 0
HasSmall asked = list_all (has_small_numbers asked.program.domains) asked.program.names ≡ true

module _ (kept asked : Asked) (program : Program) (reached : Option Reached) (view : kept ≡ asked)
    (same : asked.program ≡ program) (small : HasSmall kept) (far : reached ≡ how_far kept) where
  program_is : program ≡ kept.program
  program_is = sym same ∙ ap (λ (a : Asked). a.program) (sym view)

  pub led_from : option_and_then (number_at program) reached ≡ named asked
  led_from = ap₂ (λ p r. option_and_then (number_at p) r) program_is far ∙ led kept small
      ∙ ap named view

  pub fits_from : IfSome (named asked) (λ found. found.1 < 2 ^ 32)
  fits_from = subst (λ a. IfSome (named a) (λ found. found.1 < 2 ^ 32)) view (named_fits kept small)

  pub further_from : (word : List ℕ) → stepped program reached word
      ≡ how_far (record {
        program = kept.program;
        word = kept.word;
        args = kept.args ++ word
            ∷ [];
      })
  further_from word = ap₂ (λ p r. stepped p r word) program_is far ∙ goes_further kept word
