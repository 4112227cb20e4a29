-- The place of arguments, word by word, is that of their entities among all arguments of a name.
use Rattle.std.proofs.Common.{◌≡◌, ℕ, zero, suc, ◌+◌, ◌-◌, ◌*◌, ◌^◌, ◌<◌, ◌≤◌, nat_eq, nat_lt, ltb}
use Rattle.std.proofs.Common.{Bool, true, false, not, cond, ◌&&◌, List, [], ◌∷◌, ◌++◌, length, map}
use Rattle.std.proofs.Common.{flat_map, slice_get, Option, Some, None, option_map, option_and_then}
use Rattle.std.proofs.Common.{IfSome, refl, sym, ap, ap₂, subst, ◌∙◌, arith, length-append}
use Rattle.std.proofs.Math.Nat.{min-eq_left, min-eq_right, mul-zero, suc-mul, le-mul_of_pos_right}
use Rattle.std.proofs.lemmas.Bool.{ltb-true, ltb-false, lt-ltb}
use Rattle.std.proofs.lemmas.Bool.Decides.{nat_tests}
use Rattle.std.proofs.lemmas.List.{length-map}
use Rattle.std.proofs.lemmas.Nat.{mul-add-lt}
use Rattle.std.proofs.lemmas.List.Quantifiers.{position-Some}
use Rattle.std.specs.List.{position_or_len, range_with_len}
use Rattle.std.specs.Str.{bytes_eq}
use Rattle.ground_types.specs.Sound.{entity_count, argument_lists, domain_sizes, arguments_of}
use Rattle.ground_types.specs.declared.program.Domain.{Domain}
use Rattle.ground_types.specs.declared.program.Name.{Name}
use Rattle.ground_types.specs.Words.{place_in, entities_in, entities_of}
use Rattle.ground_names.proofs.Led.{count_is}
use Rattle.ground_names.proofs.Caps.{capped_small}
use Rattle.ground_names.specs.Counted.{capped, has_small_numbers}
use Rattle.ground_names.specs.Found.{entities_named}
use Rattle.ground_names.specs.Numbers.{number_of}
use Rattle.stream_read.specs.Looked.{place_from}

-- ---- the first place at which a test passes, in one list behind another

module _ {X : Type 0} (p : X → Bool) where
  skip : (xs ys : List X) → position_or_len p xs ≡ length xs → position_or_len p (xs ++ ys)
      ≡ length xs + position_or_len p ys
  skip [] ys e = omega arith
  skip (x ∷ xs) ys e = by (p x) e (λ h. skip xs ys h)
    where
      by : (b : Bool) → cond (not b) (1 + position_or_len p xs) 0 ≡ suc (length xs)
          → (position_or_len p xs ≡ length xs → position_or_len p (xs ++ ys)
          ≡ length xs + position_or_len p ys)
          → cond (not b) (1 + position_or_len p (xs ++ ys)) 0 ≡ suc (length xs) + position_or_len p
          ys
      by true e rest = absurd (omega (arith, e))
      by false e rest = let more = rest (omega (arith, e)) in omega (arith, more)

  stop : (xs ys : List X) → position_or_len p xs < length xs → position_or_len p (xs ++ ys)
      ≡ position_or_len p xs
  stop [] ys h = absurd (omega (arith, h))
  stop (x ∷ xs) ys h = by (p x) h (λ g. stop xs ys g)
    where
      by : (b : Bool) → cond (not b) (1 + position_or_len p xs) 0 < suc (length xs)
          → (position_or_len p xs < length xs → position_or_len p (xs ++ ys) ≡ position_or_len p xs)
          → cond (not b) (1 + position_or_len p (xs ++ ys)) 0
          ≡ cond (not b) (1 + position_or_len p xs) 0
      by true h rest = refl
      by false h rest = let more = rest (omega (arith, h)) in omega (arith, more)

-- ---- lists that begin with each number of a range

module _ (bs : List ℕ) where
  in_other : (a e : ℕ) (ts : List (List ℕ)) → nat_eq a e ≡ false
      → position_or_len (bytes_eq (a ∷ bs)) (map (λ rest. e ∷ rest) ts) ≡ length ts
  in_other a e [] differ = refl
  in_other a e (t ∷ ts) differ =
      let next : 1 + length ts ≡ suc (length ts) = omega arith in
      ap₂ (λ b n. cond (not (b && bytes_eq bs t)) (1 + n) 0) differ (in_other a e ts differ) ∙ next

  in_same : (a e : ℕ) (ts : List (List ℕ)) → nat_eq a e ≡ true
      → position_or_len (bytes_eq (a ∷ bs)) (map (λ rest. e ∷ rest) ts) ≡ position_or_len
      (bytes_eq bs) ts
  in_same a e [] same = refl
  in_same a e (t ∷ ts) same = ap₂ (λ b n. cond (not (b && bytes_eq bs t)) (1 + n) 0) same
      (in_same a e ts same)

module _ (tails : List (List ℕ)) where
  abbrev block : ℕ → List (List ℕ)
  block entity = map (λ rest. entity ∷ rest) tails

  block_count : (a : ℕ) → length (block a) ≡ length tails
  block_count a = length-map tails (λ rest. a ∷ rest)

  length_blocks : (a n : ℕ) → length (flat_map block (range_with_len a n)) ≡ n * length tails
  length_blocks a zero = grind arith
  length_blocks a (suc n) =
      length-append (block a) (flat_map block (range_with_len (a + 1) n))
      ∙ ap₂ (λ k m. k + m) (block_count a) (length_blocks (a + 1) n)
      ∙ grind (arith, suc-mul n (length tails))

  in_blocks : (bs : List ℕ) → position_or_len (bytes_eq bs) tails < length tails → (s n q : ℕ)
      → q < n
      → position_or_len (bytes_eq ((s + q) ∷ bs)) (flat_map block (range_with_len s n))
      ≡ q * length tails + position_or_len (bytes_eq bs) tails
  in_blocks bs inside s zero q below = absurd (omega (arith, below))
  in_blocks bs inside s (suc n) zero below =
      let here : nat_eq (s + 0) s ≡ true = grind (arith, nat_tests) in
      let found = in_same bs (s + 0) s tails here in
      let count = block_count s in
      let same : position_or_len (bytes_eq bs) tails ≡ 0 * length tails + position_or_len
      (bytes_eq bs) tails = grind arith in
      stop (bytes_eq ((s + 0) ∷ bs)) (block s) (flat_map block (range_with_len (s + 1) n))
      (omega (arith, found, count, inside)) ∙ found ∙ same
  in_blocks bs inside s (suc n) (suc q) below =
      let later : nat_eq (s + suc q) s ≡ false = grind (arith, nat_tests) in
      let count = block_count s in
      let next : s + suc q ≡ s + 1 + q = omega arith in
      skip (bytes_eq ((s + suc q) ∷ bs)) (block s) (flat_map block (range_with_len (s + 1) n))
      (in_other bs (s + suc q) s tails later ∙ sym count)
      ∙ ap₂ (λ k m. k + m) count (ap (λ a. position_or_len (bytes_eq (a ∷ bs))
      (flat_map block (range_with_len (s + 1) n))) next ∙ in_blocks bs inside (s + 1) n q
      (omega (arith, below)))
      ∙ grind (arith, suc-mul q (length tails))

-- ---- numbers below sizes

abbrev rank : List ℕ → List ℕ → ℕ
rank [] es = 0
rank (size ∷ sizes) [] = 0
rank (size ∷ sizes) (e ∷ es) = e * length (argument_lists sizes) + rank sizes es

abbrev AreBelow : List ℕ → List ℕ → Type 0
AreBelow [] [] = Unit {0}
AreBelow [] (e ∷ es) = ⊥
AreBelow (size ∷ sizes) [] = ⊥
AreBelow (size ∷ sizes) (e ∷ es) = (e < size) × AreBelow sizes es

-- where they stand among all lists of numbers below these sizes
rank_is_place : (sizes es : List ℕ) → AreBelow sizes es
    → (position_or_len (bytes_eq es) (argument_lists sizes) ≡ rank sizes es)
    × (rank sizes es < length (argument_lists sizes))
rank_is_place [] [] below = (refl, omega arith)
rank_is_place [] (e ∷ es) below = absurd below
rank_is_place (size ∷ sizes) [] below = absurd below
rank_is_place (size ∷ sizes) (e ∷ es) below =
    let tails = argument_lists sizes in
    let rest = rank_is_place sizes es below.1 in
    let at = rest.0 in
    let inside = rest.1 in
    let count = length_blocks tails 0 size in
    let few = mul-add-lt e (length tails) (rank sizes es) size below.0 inside in
    let swap : length tails * size ≡ size * length tails = grind arith in
    let same : e ≡ 0 + e = omega arith in (
      ap (λ a. position_or_len (bytes_eq (a ∷ es)) (argument_lists (size ∷ sizes))) same
          ∙ in_blocks tails es (omega (arith, at, inside)) 0 size e below.0
          ∙ ap (λ n. e * length tails + n) at,
      omega (arith, few, swap, count),
    )

-- ---- places that stop at the greatest number

abbrev greatest : ℕ
greatest = 2 ^ 64 - 1

capped_over : (n : ℕ) → greatest ≤ n → capped n ≡ greatest
capped_over n over = min-eq_right over

over_next : (place size entity : ℕ) → greatest < place → capped (greatest * size + entity)
    ≡ capped (place * size + entity)
over_next place zero entity over =
    let one = mul-zero greatest in
    let two = mul-zero place in
    ap (λ n. capped (n + entity)) (one ∙ sym two)
over_next place (suc size) entity over =
    let one : greatest ≤ greatest * suc size = le-mul_of_pos_right greatest (omega arith) in
    let two : place ≤ place * suc size = le-mul_of_pos_right place (omega arith) in
    capped_over (greatest * suc size + entity) (omega (arith, one))
    ∙ sym (capped_over (place * suc size + entity) (omega (arith, two, over)))

capped_next : (place size entity : ℕ) → capped (capped place * size + entity)
    ≡ capped (place * size + entity)
capped_next place size entity = by (ltb greatest place) refl
  where
    by : (b : Bool) → ltb greatest place ≡ b → capped (capped place * size + entity)
        ≡ capped (place * size + entity)
    by true e =
        let over : greatest < place = ltb-true greatest place e in
        ap (λ n. capped (n * size + entity)) (capped_over place (omega (arith, over)))
        ∙ over_next place size entity over
    by false e =
        let fits = ltb-false greatest place e in
        ap (λ n. capped (n * size + entity)) (min-eq_left fits)

-- ---- words

-- an argument too few
pub too_few : (domains : List Domain) (place : ℕ) (ds : List ℕ) → 0 < length ds
    → place_from domains place ds [] ≡ None
too_few domains place [] some = absurd (omega (arith, some))
too_few domains place (d ∷ ds) some = refl

module _ (domains : List Domain) where
  abbrev size_of : ℕ → ℕ
  size_of d = length (entities_of domains d)

  abbrev count_of : List ℕ → ℕ
  count_of ds = length (argument_lists (domain_sizes domains ds))

  count_more : (d : ℕ) (ds : List ℕ) → count_of (d ∷ ds) ≡ size_of d * count_of ds
  count_more d ds =
      length_blocks (argument_lists (domain_sizes domains ds)) 0
      (entity_count (slice_get domains d))
      ∙ ap (λ n. n * count_of ds) (count_is (slice_get domains d))

  abbrev rank_of : List ℕ → List ℕ → ℕ
  rank_of ds es = rank (domain_sizes domains ds) es

  are_below : (ds : List ℕ) (words : List (List ℕ)) → IfSome (entities_named domains ds words)
      (λ es. AreBelow (domain_sizes domains ds) es)
  are_below [] [] = tt
  are_below [] (w ∷ ws) = tt
  are_below (d ∷ ds) [] = tt
  are_below (d ∷ ds) (w ∷ ws) = by (place_in (entities_of domains d) w) refl
      (entities_named domains ds ws) (are_below ds ws)
    where
      by : (o : Option ℕ) → place_in (entities_of domains d) w ≡ o → (rest : Option (List ℕ))
          → IfSome rest (λ es. AreBelow (domain_sizes domains ds) es)
          → IfSome (option_and_then (λ entity. option_map (λ rest. entity ∷ rest) rest) o)
          (λ es. AreBelow (domain_sizes domains (d ∷ ds)) es)
      by None e rest h = tt
      by (Some entity) e None h = tt
      by (Some entity) e (Some es) h =
          let inside = (position-Some (λ other. bytes_eq other w) (entities_of domains d) entity []
          e).0 in
          let count = count_is (slice_get domains d) in
          (omega (arith, inside, count), h)

  -- the place of arguments behind others
  placed : (ds : List ℕ) (words : List (List ℕ)) (place : ℕ)
      → place_from domains (capped place) ds words
      ≡ option_map (λ es. capped (place * count_of ds + rank_of ds es))
      (entities_named domains ds words)
  placed [] [] place = let same : place ≡ place * 1 + 0 = grind arith in
      ap (λ n. Some (capped n)) same
  placed [] (w ∷ ws) place = refl
  placed (d ∷ ds) [] place = refl
  placed (d ∷ ds) (w ∷ ws) place = by (place_in (entities_of domains d) w)
      (λ next. placed ds ws next)
    where
      others : Option (List ℕ)
      others = entities_named domains ds ws

      behind : (entity : ℕ) (o : Option (List ℕ))
          → option_map (λ es. capped ((place * size_of d + entity) * count_of ds + rank_of ds es)) o
          ≡ option_map (λ es. capped (place * count_of (d ∷ ds) + rank_of (d ∷ ds) es))
          (option_map (λ rest. entity ∷ rest) o)
      behind entity None = refl
      behind entity (Some es) =
          let count = count_more d ds in
          let same : (place * size_of d + entity) * count_of ds + rank_of ds es ≡ place * count_of
          (d ∷ ds) + (entity * count_of ds + rank_of ds es) = grind (arith, count) in
          ap (λ n. Some (capped n)) same

      by : (o : Option ℕ) → ((next : ℕ) → place_from domains (capped next) ds ws
          ≡ option_map (λ es. capped (next * count_of ds + rank_of ds es)) others)
          → option_and_then (λ next. place_from domains next ds ws)
          (option_map (λ entity. capped (capped place * size_of d + entity)) o)
          ≡ option_map (λ es. capped (place * count_of (d ∷ ds) + rank_of (d ∷ ds) es))
          (option_and_then (λ entity. option_map (λ rest. entity ∷ rest) others) o)
      by None rest = refl
      by (Some entity) rest =
          ap (λ n. place_from domains n ds ws) (capped_next place (size_of d) entity)
          ∙ rest (place * size_of d + entity) ∙ behind entity others

  -- a name with a place of arguments
  module _ (name : Name) (words : List (List ℕ)) (small : has_small_numbers domains name ≡ true)
    where
      abbrev number : Option ℕ
      number = option_and_then (number_of domains name) (entities_named domains name.args words)

      pub record IsPlace (place : Option ℕ) : Type 0 where
        pub is : option_map (λ n. name.first + n) place ≡ number
        pub fits : IfSome place (λ n. name.first + n < 2 ^ 32)

      of_entities : (o : Option (List ℕ))
          → IfSome o (λ es. AreBelow (domain_sizes domains name.args)
          es)
          → (option_map (λ n. name.first + n)
          (option_map (λ es. capped (0 * count_of name.args + rank_of name.args es)) o)
          ≡ option_and_then (number_of domains name) o)
          × IfSome (option_map (λ es. capped (0 * count_of name.args + rank_of name.args es)) o)
          (λ n. name.first + n < 2 ^ 32)
      of_entities None below = (refl, tt)
      of_entities (Some es) below =
          let found = rank_is_place (domain_sizes domains name.args) es below in
          let at = found.0 in
          let inside = found.1 in
          let few : name.first + count_of name.args < 2 ^ 32 =
          ltb-true (name.first + count_of name.args) (2 ^ 32) small in
          let none : 0 * count_of name.args + rank_of name.args es ≡ rank_of name.args es =
          grind arith in
          let same : capped (0 * count_of name.args + rank_of name.args es) ≡ rank_of name.args es =
          ap capped none ∙ capped_small (rank_of name.args es) (omega (arith, inside, few)) in
          let within : nat_lt (position_or_len (bytes_eq es) (arguments_of domains name))
          (count_of name.args) ≡ true = lt-ltb (position_or_len (bytes_eq es)
          (arguments_of domains name)) (count_of name.args) (omega (arith, at, inside)) in (
            ap (λ n. Some (name.first + n)) (same ∙ sym at)
                ∙ sym (ap (λ b. option_map (λ n. name.first + n)
                (cond b (Some (position_or_len (bytes_eq es) (arguments_of domains name))) None))
                within),
            omega (arith, same, inside, few),
          )

      -- the number behind the first is that of the words
      pub told_place : IsPlace (place_from domains 0 name.args words)
      told_place =
          let all = of_entities (entities_named domains name.args words) (are_below name.args words)
          in
          record {
            is = ap (option_map (λ n. name.first + n)) (placed name.args words 0) ∙ all.0;
            fits = subst (λ o. IfSome o (λ n. name.first + n < 2 ^ 32))
                (sym (placed name.args words 0)) all.1;
          }
