-- Instances by their origins.
use Rattle.std.proofs.Common.{◌≡◌, ℕ, zero, suc, ◌+◌, ◌^◌, ◌<◌, ◌≤◌, Bool, true, false, true≢false}
use Rattle.std.proofs.Common.{◌&&◌, ◌||◌, cond, nat_eq, nat_lt, List, [], ◌∷◌, ◌++◌, append-nil}
use Rattle.std.proofs.Common.{append_assoc, map, flat_map, filter, filter_map, take, length, get_or}
use Rattle.std.proofs.Common.{slice_get, option_map, Option, Some, None, refl, sym, ap, ap₂, ◌∙◌}
use Rattle.std.proofs.Common.{arith, add-one}
use Rattle.std.proofs.lemmas.List.{map-append, take_more, length-take-le}
use Rattle.std.proofs.lemmas.Bool.{lt-ltb, ltb-true}
use Rattle.std.proofs.lemmas.List.FromFn.{length-map-range_with_len, get_or-map-range_with_len}
use Rattle.std.proofs.lemmas.List.FromFn.{filter_of_map_range_with_len_more}
use Rattle.std.proofs.lemmas.List.Folds.{list_all-append}
use Rattle.std.proofs.lemmas.Grind.{flat_map-append, fold-append}
use Rattle.std.proofs.lemmas.List.Elements.{filter_map-append}
use Rattle.decl_known.proofs.Gathering.{grown, kept}
use Rattle.std.specs.List.{cons_option, range_with_len, enumerate_from, list_all, fold}
use Rattle.std.proofs.lemmas.List.Sums.{sum_by-cons}
use Rattle.std.proofs.lemmas.Option.{slice_get-get_or, same_Some}
use Rattle.ground_types.specs.Sound.{is_input, arguments_of}
use Rattle.ground_types.specs.declared.program.Domain.{Domain}
use Rattle.ground_types.specs.declared.program.Name.{Name}
use Rattle.ground_rules.specs.declared.units.Origin.{Origin}
use Rattle.ground_rules.specs.Assignments.{Clause, Instance, assignments, instances, is_permitted}
use Rattle.ground_rules.specs.Atoms.{head_unit, head_value}
use Rattle.ground_rules.specs.Grounded.{PlainUnit, kind_by, instances_at, units_by}
use Rattle.ground_rules.specs.Limits.{assignment_count}
use Rattle.ground_rules.specs.Origins.{with_key, gathered, put, clause_at, count_at, is_origin}
use Rattle.ground_rules.specs.Origins.{instance_at, origin_unit, is_permitted_at, first_origins}
use Rattle.ground_rules.specs.Origins.{origins_at, origins_of, no_clause, AreOrigins, AreFew}
use Rattle.ground_rules.specs.Origins.{has_units_below}
use Rattle.ground_rules.proofs.ByLayer.{enumerate_from-last}

-- ---- lists by their places

module _ {A B : Type 0} where
  pub filter_mapped : (f : A → B) (p : B → Bool) (xs : List A) → map f (filter (λ x. p (f x)) xs)
      ≡ filter p (map f xs)
  filter_mapped f p [] = refl
  filter_mapped f p (x ∷ xs) = by (p (f x)) (filter_mapped f p xs)
    where
      by : (b : Bool) → map f (filter (λ x. p (f x)) xs) ≡ filter p (map f xs)
          → map f (cond b (x ∷ filter (λ x. p (f x)) xs) (filter (λ x. p (f x)) xs))
          ≡ cond b (f x ∷ filter p (map f xs)) (filter p (map f xs))
      by true e = ap (λ l. f x ∷ l) e
      by false e = e

  pub map_by_places : (f : A → B) (h : ℕ → B) (d : A) (xs : List A) (first : ℕ)
      → ((k n : ℕ) → first + k ≡ n → h n ≡ f (get_or xs k d))
      → map h (range_with_len first (length xs)) ≡ map f xs
  map_by_places f h d [] first same = refl
  map_by_places f h d (x ∷ xs) first same =
      ap₂ (λ y ys. y ∷ ys) (same 0 first (omega arith)) (map_by_places f h d xs (first + 1)
      (λ k n e. same (suc k) n (omega arith)))

  pub map-map : (f : A → B) (g : ℕ → A) (ns : List ℕ) → map f (map g ns) ≡ map (λ n. f (g n)) ns
  map-map f g [] = refl
  map-map f g (n ∷ ns) = ap (λ l. f (g n) ∷ l) (map-map f g ns)

  pub map-flat_map : {C : Type 0} (f : B → C) (g : A → List B) (xs : List A)
      → map f (flat_map g xs) ≡ flat_map (λ x. map f (g x)) xs
  map-flat_map f g [] = refl
  map-flat_map f g (x ∷ xs) = map-append f (g x) (flat_map g xs) ∙ ap (λ l. map f (g x) ++ l)
      (map-flat_map f g xs)

  pub flat_map_by_places : (f : A → List B) (h : ℕ → List B) (d : A) (xs : List A) (first : ℕ)
      → ((k n : ℕ) → first + k ≡ n → h n ≡ f (get_or xs k d))
      → flat_map h (range_with_len first (length xs)) ≡ flat_map f xs
  flat_map_by_places f h d [] first same = refl
  flat_map_by_places f h d (x ∷ xs) first same =
      ap₂ (λ y ys. y ++ ys) (same 0 first (omega arith)) (flat_map_by_places f h d xs (first + 1)
      (λ k n e. same (suc k) n (omega arith)))

-- ---- the instances of origins are those of the statements

module _ (clauses : List Clause) where
  abbrev origin_of : ℕ → ℕ → Origin
  origin_of statement number = record { statement = statement; assignment = number }

  abbrev under : Clause → List ℕ → Instance
  under clause assignment = record { clause = clause; assignment = assignment }

  all_here : (statement : ℕ) → map (instance_at clauses) (map (origin_of statement)
      (range_with_len 0 (count_at clauses statement))) ≡ map (under (clause_at clauses statement))
      (assignments (clause_at clauses statement))
  all_here statement =
      let clause = clause_at clauses statement in
      map-map (instance_at clauses) (origin_of statement)
      (range_with_len 0 (count_at clauses statement))
      ∙ map_by_places (under clause) (λ number. instance_at clauses (origin_of statement number))
      [] (assignments clause) 0
      (λ k n e. ap (λ m. under clause (get_or (assignments clause) m [])) (sym (omega arith)))

  pub instances_here : (statement : ℕ) → map (instance_at clauses) (origins_at clauses statement)
      ≡ instances (clause_at clauses statement)
  instances_here statement =
      filter_mapped (instance_at clauses) is_permitted (map (origin_of statement)
      (range_with_len 0 (count_at clauses statement)))
      ∙ ap (filter is_permitted) (all_here statement)

  pub instances_of_origins : map (instance_at clauses) (origins_of clauses) ≡ flat_map instances
      clauses
  instances_of_origins =
      map-flat_map (instance_at clauses) (origins_at clauses) (range_with_len 0 (length clauses))
      ∙ flat_map_by_places instances (λ statement. map (instance_at clauses)
      (origins_at clauses statement)) no_clause clauses 0
      (λ k n e. instances_here n ∙ ap (λ m. instances (get_or clauses m no_clause))
      (sym (omega arith)))

  -- those with a unit in their head
  pub mine_are : (unit : ℕ) → map (instance_at clauses) (with_key (origin_unit clauses)
      (origins_of clauses) unit) ≡ instances_at unit (flat_map instances clauses)
  mine_are unit =
      filter_mapped (instance_at clauses) (λ i. nat_eq (head_unit i) unit) (origins_of clauses)
      ∙ ap (instances_at unit) instances_of_origins

-- ---- the step of a loop over origins

module _ (clauses : List Clause) (mine : List Origin) (i : ℕ) (d : Origin)
    (within : i < length mine) where
  pub next_instance : map (instance_at clauses) (take (i + 1) mine) ≡ map (instance_at clauses)
      (take i mine) ++ instance_at clauses (get_or mine i d) ∷ []
  next_instance = ap (map (instance_at clauses)) (take_more mine i d within)
      ∙ map-append (instance_at clauses) (take i mine) (get_or mine i d ∷ [])

  module _ {Y : Type 0} (h : Instance → Option Y) (given : Option Y) (by : given
      ≡ h (instance_at clauses (get_or mine i d)))
      (held : List Y) (same : held ≡ filter_map h (map (instance_at clauses) (take i mine))) where
    next_given : filter_map h (map (instance_at clauses) (take (i + 1) mine))
        ≡ filter_map h (map (instance_at clauses) (take i mine)) ++ cons_option
        (h (instance_at clauses (get_or mine i d))) []
    next_given = ap (filter_map h) next_instance
        ∙ filter_map-append h (map (instance_at clauses) (take i mine))
        (instance_at clauses (get_or mine i d) ∷ [])

    -- what an instance gives was added
    pub one_given : (y : Y) (now : List Y) → given ≡ Some y → now ≡ held ++ y ∷ []
        → now ≡ filter_map h (map (instance_at clauses) (take (i + 1) mine))
    one_given y now some put = grown _ _ _ given next_given by held same y now some put

    -- an instance gives nothing
    pub none_given : given ≡ None → held
        ≡ filter_map h (map (instance_at clauses) (take (i + 1) mine))
    none_given none = kept _ _ _ given next_given by held same none

-- ---- places one after the other

range_last : (first count last : ℕ) → first + count ≡ last → range_with_len first (suc count)
    ≡ range_with_len first count ++ last ∷ []
range_last first zero last at = ap (λ k. k ∷ []) (omega arith)
range_last first (suc count) last at = ap (λ ks. first ∷ ks) (range_last (first + 1) count last
    (omega arith))

pub flat_map-range_more : {A : Type 0} (f : ℕ → List A) (count : ℕ)
    → flat_map f (range_with_len 0 (count + 1)) ≡ flat_map f (range_with_len 0 count) ++ f count
flat_map-range_more f count =
    ap (λ n. flat_map f (range_with_len 0 n)) (add-one count)
    ∙ ap (flat_map f) (range_last 0 count count (omega arith))
    ∙ flat_map-append f (range_with_len 0 count) (count ∷ [])
    ∙ ap (λ l. flat_map f (range_with_len 0 count) ++ l) (append-nil (f count))

pub get_or_mapped : {A B : Type 0} (f : A → B) (xs : List A) (i : ℕ) (x : A) (d : B)
    → i < length xs → x ≡ get_or xs i x → get_or (map f xs) i d ≡ f x
get_or_mapped f [] i x d within at = absurd (omega arith)
get_or_mapped f (y ∷ ys) zero x d within at = ap f (sym at)
get_or_mapped f (y ∷ ys) (suc i) x d within at = get_or_mapped f ys i x d (omega arith) at

-- ---- origins one after the other

module _ (clauses : List Clause) where
  pub first_origins_more : (statement count : ℕ) (lists : List (List Origin))
      → fold (put (origin_unit clauses)) (fold (put (origin_unit clauses)) lists
      (first_origins clauses statement count))
      (cond (is_permitted_at clauses (record { statement = statement; assignment = count }))
      (record { statement = statement; assignment = count } ∷ []) [])
      ≡ fold (put (origin_unit clauses)) lists (first_origins clauses statement (count + 1))
  first_origins_more statement count lists =
      let origin = origin_of clauses statement in
      sym (fold-append (put (origin_unit clauses)) lists (first_origins clauses statement count)
      (cond (is_permitted_at clauses (origin count)) (origin count ∷ []) []))
      ∙ ap (fold (put (origin_unit clauses)) lists)
      (sym (filter_of_map_range_with_len_more (is_permitted_at clauses) origin 0 count count
      (omega arith)))

  pub origins_more : (statement : ℕ) (lists : List (List Origin))
      → fold (put (origin_unit clauses)) (fold (put (origin_unit clauses)) lists
      (flat_map (origins_at clauses) (range_with_len 0 statement)))
      (origins_at clauses statement)
      ≡ fold (put (origin_unit clauses)) lists (flat_map (origins_at clauses)
      (range_with_len 0 (statement + 1)))
  origins_more statement lists =
      sym (fold-append (put (origin_unit clauses)) lists (flat_map (origins_at clauses)
      (range_with_len 0 statement)) (origins_at clauses statement))
      ∙ ap (fold (put (origin_unit clauses)) lists)
      (sym (flat_map-range_more (origins_at clauses) statement))

-- ---- all of them are origins

module _ {A : Type 0} (p : A → Bool) where
  and_both : (a b : Bool) → a ≡ true → b ≡ true → (a && b) ≡ true
  and_both true b e f = f
  and_both false b e f = e

  first_of : (a b : Bool) → (a && b) ≡ true → a ≡ true
  first_of true b e = refl
  first_of false b e = e

  second_of : (a b : Bool) → (a && b) ≡ true → b ≡ true
  second_of true b e = e
  second_of false b e = absurd (true≢false (sym e))

  pub list_all-filter : (q : A → Bool) (xs : List A) → list_all p xs ≡ true
      → list_all p (filter q xs) ≡ true
  list_all-filter q [] all = refl
  list_all-filter q (x ∷ xs) all = by (q x) (list_all-filter q xs (second_of (p x) (list_all p xs)
      all))
    where
      by : (b : Bool) → list_all p (filter q xs) ≡ true
          → list_all p (cond b (x ∷ filter q xs) (filter q xs)) ≡ true
      by true rest = and_both (p x) (list_all p (filter q xs)) (first_of (p x) (list_all p xs) all)
          rest
      by false rest = rest

  list_all-range : (f : ℕ → A) (first count : ℕ) → ((k : ℕ) → k < first + count → p (f k) ≡ true)
      → list_all p (map f (range_with_len first count)) ≡ true
  list_all-range f first zero all = refl
  list_all-range f first (suc count) all =
      and_both (p (f first)) (list_all p (map f (range_with_len (first + 1) count)))
      (all first (omega arith)) (list_all-range f (first + 1) count (λ k h. all k (omega arith)))

  list_all-ranges : (f : ℕ → List A) (first count : ℕ) → ((k : ℕ) → k < first + count
      → list_all p (f k) ≡ true) → list_all p (flat_map f (range_with_len first count)) ≡ true
  list_all-ranges f first zero all = refl
  list_all-ranges f first (suc count) all =
      list_all-append p (f first) (flat_map f (range_with_len (first + 1) count))
      ∙ and_both (list_all p (f first)) (list_all p
      (flat_map f (range_with_len (first + 1) count))) (all first (omega arith))
      (list_all-ranges f (first + 1) count (λ k h. all k (omega arith)))

module _ (clauses : List Clause) (few : AreFew clauses) where
  are_here : (statement : ℕ) → statement < length clauses
      → list_all (is_origin clauses) (origins_at clauses statement) ≡ true
  are_here statement inside =
      list_all-filter (is_origin clauses) (is_permitted_at clauses)
      (map (origin_of clauses statement) (range_with_len 0 (count_at clauses statement)))
      (list_all-range (is_origin clauses) (origin_of clauses statement) 0
      (count_at clauses statement) (λ k h. is_one k (omega arith)))
    where
      is_one : (k : ℕ) → k < count_at clauses statement
          → is_origin clauses (origin_of clauses statement k) ≡ true
      is_one k below =
          and_three (nat_lt statement (length clauses)) (nat_lt k (count_at clauses statement))
          (nat_lt (count_at clauses statement) (2 ^ 32))
          (lt-ltb statement (length clauses) inside) (lt-ltb k (count_at clauses statement) below)
          (lt-ltb (count_at clauses statement) (2 ^ 32) (few statement inside))
        where
          and_three : (a b d : Bool) → a ≡ true → b ≡ true → d ≡ true → (a && b && d) ≡ true
          and_three true true d e f g = g
          and_three true false d e f g = absurd (true≢false (sym f))
          and_three false b d e f g = absurd (true≢false (sym e))

  all_are : list_all (is_origin clauses) (origins_of clauses) ≡ true
  all_are = list_all-ranges (is_origin clauses) (origins_at clauses) 0 (length clauses)
      (λ k h. are_here k (omega arith))

  -- the origins of a unit
  module _ (lists : List (List Origin)) (are : AreOrigins clauses lists) (unit : ℕ)
      (below : unit < length lists) where
    pub mine_here : get_or lists unit [] ≡ with_key (origin_unit clauses) (origins_of clauses) unit
    mine_here = ap (λ ls. get_or ls unit []) are ∙ get_or-map-range_with_len
        (with_key (origin_unit clauses) (origins_of clauses)) 0 (length lists) unit unit [] below
        (omega arith)

    pub mine_are_origins : list_all (is_origin clauses) (get_or lists unit []) ≡ true
    mine_are_origins = ap (list_all (is_origin clauses)) mine_here
        ∙ list_all-filter (is_origin clauses) (λ o. nat_eq (origin_unit clauses o) unit)
        (origins_of clauses) all_are

    pub mine_are_instances : map (instance_at clauses) (get_or lists unit []) ≡ instances_at unit
        (flat_map instances clauses)
    mine_are_instances = ap (map (instance_at clauses)) mine_here ∙ mine_are clauses unit

-- ---- the origins of a value

module _ (clauses : List Clause) (mine : List Origin) (values value : ℕ) (below : value < values)
  where
    abbrev value_key : Origin → ℕ
    value_key origin = head_value (instance_at clauses origin)

    value_here : (lists : List (List Origin)) → lists ≡ gathered value_key values mine
        → get_or lists value [] ≡ with_key value_key mine value
    value_here lists are = ap (λ ls. get_or ls value []) are ∙ get_or-map-range_with_len
        (with_key value_key mine) 0 values value value [] below (omega arith)

    pub value_origins : (lists : List (List Origin)) → lists ≡ gathered value_key values mine
        → list_all (is_origin clauses) mine ≡ true
        → list_all (is_origin clauses) (get_or lists value []) ≡ true
    value_origins lists are all = ap (list_all (is_origin clauses)) (value_here lists are)
        ∙ list_all-filter (is_origin clauses) (λ o. nat_eq (value_key o) value) mine all

    pub value_instances : (lists : List (List Origin)) → lists ≡ gathered value_key values mine
        → map (instance_at clauses) (get_or lists value [])
        ≡ filter (λ i. nat_eq (head_value i) value) (map (instance_at clauses) mine)
    value_instances lists are = ap (map (instance_at clauses)) (value_here lists are)
        ∙ filter_mapped (instance_at clauses) (λ i. nat_eq (head_value i) value) mine

-- ---- units of a name

abbrev pub units_among : List Instance → ℕ → Name → List (List ℕ) → List PlainUnit
units_among all place name args =
    map (λ unit. record {
      name = place;
      args = unit.1;
      kind = kind_by name.kind (length name.values) (instances_at unit.0 all);
    })
    (enumerate_from name.first args)

-- the number of each unit of a name is below that of all
pub unit_below : (domains : List Domain) (count : ℕ) (name : Name)
    → has_units_below domains count name ≡ true → is_input name.kind ≡ false → (number : ℕ)
    → number < length (arguments_of domains name) → name.first + number < count
unit_below domains count name below computed number inside =
    let high = ltb-true (name.first + length (arguments_of domains name)) (count + 1)
    (second (is_input name.kind) (nat_lt (name.first + length (arguments_of domains name))
    (count + 1)) below computed) in
    omega arith
  where
    second : (a b : Bool) → (a || b) ≡ true → a ≡ false → b ≡ true
    second true b e f = absurd (true≢false f)
    second false b e f = e

module _ (all : List Instance) (place : ℕ) (name : Name) (args : List (List ℕ)) (number : ℕ)
    (inside : number < length args) where
  abbrev unit_by : ℕ × List ℕ → PlainUnit
  unit_by unit = record {
    name = place;
    args = unit.1;
    kind = kind_by name.kind (length name.values) (instances_at unit.0 all);
  }

  units_among-more : units_among all place name (take (number + 1) args)
      ≡ units_among all place name (take number args)
      ++ record {
        name = place;
        args = get_or args number [];
        kind = kind_by name.kind (length name.values) (instances_at (name.first + number) all);
      }
      ∷ []
  units_among-more =
      ap (units_among all place name) (take_more args number [] inside)
      ∙ ap (map unit_by) (enumerate_from-last name.first (name.first + number) (take number args)
      (get_or args number []) (omega (arith, length-take-le number args (omega arith))))
      ∙ map-append unit_by (enumerate_from name.first (take number args))
      ((name.first + number, get_or args number []) ∷ [])

  -- one unit more
  module _ (before unit_list : List PlainUnit) (unit : PlainUnit) (mine : List Instance)
      (are : mine ≡ instances_at (name.first + number) all)
      (is : option_map (λ a. record {
        name = place;
        args = a;
        kind = kind_by name.kind (length name.values) mine;
      }) (slice_get args number) ≡ Some unit)
    where
      unit_is : record {
        name = place;
        args = get_or args number [];
        kind = kind_by name.kind (length name.values) (instances_at (name.first + number) all);
      }
          ≡ unit
      unit_is =
          let some : Some (record {
            name = place;
            args = get_or args number [];
            kind = kind_by name.kind (length name.values) mine;
          }) ≡ Some unit =
          ap (option_map (λ a. record {
            name = place;
            args = a;
            kind = kind_by name.kind (length name.values) mine;
          }))
          (sym (slice_get-get_or args number [] inside)) ∙ is in
          ap (λ m. record {
            name = place;
            args = get_or args number [];
            kind = kind_by name.kind (length name.values) m;
          }) (sym are)
          ∙ same_Some (record {
            name = place;
            args = get_or args number [];
            kind = kind_by name.kind (length name.values) mine;
          }) unit some

      pub one_unit_more : unit_list ≡ before ++ units_among all place name (take number args)
          → unit_list ++ unit ∷ [] ≡ before ++ units_among all place name (take (number + 1) args)
      one_unit_more so_far =
          ap (λ us. us ++ unit ∷ []) so_far
          ∙ append_assoc before (units_among all place name (take number args)) (unit ∷ [])
          ∙ ap (λ u. before ++ (units_among all place name (take number args) ++ u ∷ []))
          (sym unit_is)
          ∙ ap (λ us. before ++ us) (sym units_among-more)

-- ---- the names one after the other

pub passes_here : {A : Type 0} (p : A → Bool) (xs : List A) (i : ℕ) (x : A) → list_all p xs ≡ true
    → i < length xs → x ≡ get_or xs i x → p x ≡ true
passes_here p [] i x all inside at = absurd (omega arith)
passes_here p (y ∷ ys) zero x all inside at = ap p at ∙ first_of p (p y) (list_all p ys) all
passes_here p (y ∷ ys) (suc i) x all inside at =
    passes_here p ys i x (second_of p (p y) (list_all p ys) all) (omega arith) at

pub are_origins : (clauses : List Clause) (count : ℕ) (lists : List (List Origin))
    → lists ≡ gathered (origin_unit clauses) count (origins_of clauses) → (length lists ≡ count)
    × AreOrigins clauses lists
are_origins clauses count lists are =
    let len = ap length are ∙ length-map-range_with_len (with_key (origin_unit clauses)
    (origins_of clauses)) 0 count in
    (len, are ∙ ap (λ n. gathered (origin_unit clauses) n (origins_of clauses)) (sym len))

module _ (domains : List Domain) (all : List Instance) (names : List Name) (place : ℕ) (d : Name)
    (inside : place < length names) where
  pub one_name_more : flat_map (units_by domains all) (enumerate_from 0 (take place names))
      ++ units_by domains all (place, get_or names place d)
      ≡ flat_map (units_by domains all) (enumerate_from 0 (take (place + 1) names))
  one_name_more =
      ap (λ us. flat_map (units_by domains all) (enumerate_from 0 (take place names)) ++ us)
      (sym (append-nil (units_by domains all (place, get_or names place d))))
      ∙ sym (flat_map-append (units_by domains all) (enumerate_from 0 (take place names))
      ((place, get_or names place d) ∷ []))
      ∙ ap (flat_map (units_by domains all)) (sym (enumerate_from-last 0 place (take place names)
      (get_or names place d) (omega (arith, length-take-le place names (omega arith)))))
      ∙ ap (λ ns. flat_map (units_by domains all) (enumerate_from 0 ns))
      (sym (take_more names place d inside))

-- ---- few assignments in all are few for each statement

few_of_each : (clauses : List Clause) (most : ℕ) → assignment_count clauses ≤ most
    → (statement : ℕ) → statement < length clauses → count_at clauses statement ≤ most
few_of_each [] most few statement inside = absurd (omega arith)
few_of_each (clause ∷ clauses) most few zero inside = let sum =
    sum_by-cons (λ clause. length (assignments clause)) clause clauses in omega (arith, sum)
few_of_each (clause ∷ clauses) most few (suc statement) inside =
    let sum = sum_by-cons (λ clause. length (assignments clause)) clause clauses in
    few_of_each clauses most (omega (arith, sum)) statement (omega arith)

pub are_few : (clauses : List Clause) → assignment_count clauses ≤ 1048576 → AreFew clauses
are_few clauses few = λ statement inside. (let low = few_of_each clauses 1048576 few statement
    inside in omega arith)
