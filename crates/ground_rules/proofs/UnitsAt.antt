-- The units of a grounded program by their numbers.
use Rattle.std.proofs.Common.{◌≡◌, ◌⊎◌, inl, inr, ℕ, zero, suc, ◌+◌, ◌<◌, Bool, true, false, List}
use Rattle.std.proofs.Common.{[], ◌∷◌, ◌++◌, append_assoc, flat_map, length, slice_get, option_map}
use Rattle.std.proofs.Common.{Option, Some, None, refl, sym, ap, ◌∙◌, arith, if◌then◌else◌}
use Rattle.std.specs.List.{enumerate_from}
use Rattle.std.proofs.lemmas.List.{length-append, length-map}
use Rattle.std.proofs.lemmas.List.FromFn.{length-enumerate_from}
use Rattle.std.proofs.lemmas.List.Sums.{sum_by-cons}
use Rattle.std.proofs.lemmas.Option.{slice_get-map, slice_get_within, none-some, same_Some}
use Rattle.ground_types.specs.Sound.{is_input, arguments_of}
use Rattle.ground_types.specs.declared.program.Domain.{Domain}
use Rattle.ground_types.specs.declared.program.Name.{Name}
use Rattle.ground_names.specs.Numbers.{with_first, numbered}
use Rattle.ground_rules.specs.Assignments.{Instance}
use Rattle.ground_rules.specs.Grounded.{PlainUnit, kind_by, instances_at, units_of_name, units_by}
use Rattle.ground_rules.specs.Grounded.{units_of, event_count}

-- ---- items of lists that are made of others

module _ {A : Type 0} where
  pub get_front : (xs ys : List A) (k : ℕ) (x : A) → slice_get xs k ≡ Some x
      → slice_get (xs ++ ys) k ≡ Some x
  get_front [] ys k x e = absurd (none-some x e)
  get_front (y ∷ xs) ys zero x e = e
  get_front (y ∷ xs) ys (suc k) x e = get_front xs ys k x e

  pub get_back : (xs ys : List A) (k n : ℕ) → n ≡ length xs + k → slice_get (xs ++ ys) n
      ≡ slice_get ys k
  get_back [] ys k n e = ap (slice_get ys) (omega (arith, e))
  get_back (x ∷ xs) ys k zero e = absurd (omega (arith, e))
  get_back (x ∷ xs) ys k (suc n) e = get_back xs ys k n (omega (arith, e))

  -- an item of a list or of the one behind it
  pub get_either : (xs ys : List A) (k : ℕ) (x : A) → slice_get (xs ++ ys) k ≡ Some x
      → (slice_get xs k ≡ Some x) ⊎ ((j : ℕ) × (k ≡ length xs + j) × (slice_get ys j ≡ Some x))
  get_either [] ys k x e = inr (k, omega arith, e)
  get_either (y ∷ xs) ys zero x e = inl e
  get_either (y ∷ xs) ys (suc k) x e = one_on (get_either xs ys k x e)
    where
      one_on : (slice_get xs k ≡ Some x) ⊎ ((j : ℕ) × (k ≡ length xs + j)
          × (slice_get ys j ≡ Some x)) → (slice_get xs k ≡ Some x)
          ⊎ ((j : ℕ) × (suc k ≡ length (y ∷ xs) + j) × (slice_get ys j ≡ Some x))
      one_on (inl f) = inl f
      one_on (inr (j, f, g)) = inr (j, omega (arith, f), g)

  pub slice_get-enumerate_from : (n : ℕ) (xs : List A) (k : ℕ) → slice_get (enumerate_from n xs) k
      ≡ option_map (λ x. (n + k, x)) (slice_get xs k)
  slice_get-enumerate_from n [] k = refl
  slice_get-enumerate_from n (x ∷ xs) zero = ap (λ m. Some (m, x)) (omega arith)
  slice_get-enumerate_from n (x ∷ xs) (suc k) =
      let same : n + 1 + k ≡ n + suc k = omega arith in
      slice_get-enumerate_from (n + 1) xs k ∙ ap (λ m. option_map (λ x. (m, x)) (slice_get xs k))
      same

-- a unit of a name, with the number of its arguments among those of the name
pub record IsUnitAt (domains : List Domain) (names : List Name) (all : List Instance) (k : ℕ)
    (unit : PlainUnit) : Type 0 where
  pub name : Name
  pub at : slice_get names unit.name ≡ Some name
  pub computed : is_input name.kind ≡ false
  pub number : ℕ
  pub inside : number < length (arguments_of domains name)
  pub args : slice_get (arguments_of domains name) number ≡ Some unit.args
  pub index : name.first + number ≡ k
  pub kind : unit.kind ≡ kind_by name.kind (length name.values) (instances_at k all)

-- the unit of a name at a place, with these arguments
abbrev pub unit_of : List Instance → ℕ → Name → List ℕ → ℕ → PlainUnit
unit_of all place name args k = record {
  name = place;
  args = args;
  kind = kind_by name.kind (length name.values) (instances_at k all);
}

module _ (domains : List Domain) (all : List Instance) where
  -- the unit of a name with its arguments of a number
  name_unit : (place : ℕ) (name : Name) (number : ℕ) (args : List ℕ)
      → slice_get (arguments_of domains name) number ≡ Some args
      → slice_get (units_of_name domains all place name) number
      ≡ Some (unit_of all place name args (name.first + number))
  name_unit place name number args e =
      slice_get-map (λ unit. unit_of all place name unit.1 unit.0) (enumerate_from name.first
      (arguments_of domains name)) number
      ∙ ap (option_map (λ unit. unit_of all place name unit.1 unit.0))
      (slice_get-enumerate_from name.first (arguments_of domains name) number
      ∙ ap (option_map (λ x. (name.first + number, x))) e)

  count_units : (place : ℕ) (name : Name) → length (units_of_name domains all place name)
      ≡ length (arguments_of domains name)
  count_units place name =
      length-map (enumerate_from name.first (arguments_of domains name)) (λ unit. unit_of all place
      name unit.1 unit.0) ∙ length-enumerate_from name.first (arguments_of domains name)

  count_by_kind : (b : Bool) (unit count : ℕ) (own : List PlainUnit) → length own ≡ count
      → unit + length (if b then [] else own) ≡ (if b then unit else unit + count)
  count_by_kind true unit count own e = omega arith
  count_by_kind false unit count own e = ap (λ n. unit + n) e

  -- the units behind others
  unit_behind : (declared : List Name) (start event unit place : ℕ) (name : Name) (number : ℕ)
      (args : List ℕ) → slice_get (numbered domains event unit declared) place ≡ Some name
      → is_input name.kind ≡ false → slice_get (arguments_of domains name) number ≡ Some args
      → (before : List PlainUnit) → length before ≡ unit
      → slice_get (before ++ flat_map (units_by domains all)
      (enumerate_from start (numbered domains event unit declared))) (name.first + number)
      ≡ Some (unit_of all (start + place) name args (name.first + number))
  unit_behind [] start event unit place name number args at computed among before long =
      absurd (none-some name at)
  unit_behind (n ∷ ns) start event unit zero name number args at computed among before long =
      let first : Name = with_first (if is_input n.kind then event else unit) n in
      let same : first ≡ name = same_Some first name at in
      let here : is_input n.kind ≡ false = ap (λ (x : Name). is_input x.kind) same ∙ computed in
      let begin : name.first ≡ unit = ap (λ (x : Name). x.first) (sym same)
      ∙ ap (λ b. if b then event else unit) here in
      let own : units_by domains all (start, first) ≡ units_of_name domains all start name =
      ap (λ b. if b then [] else units_of_name domains all start first) here
      ∙ ap (units_of_name domains all start) same in
      let count = length (arguments_of domains n) in
      let rest = flat_map (units_by domains all) (enumerate_from (start + 1)
      (numbered domains (if is_input n.kind then event + count else event) (if is_input n.kind
      then unit else unit + count) ns)) in
      get_back before (units_by domains all (start, first) ++ rest) number (name.first + number)
      (omega (arith, begin, long))
      ∙ ap (λ us. slice_get (us ++ rest) number) own
      ∙ get_front (units_of_name domains all start name) rest number (unit_of all start name args
      (name.first + number)) (name_unit start name number args among)
      ∙ ap (λ m. Some (unit_of all m name args (name.first + number))) (omega arith)
  unit_behind (n ∷ ns) start event unit (suc place) name number args at computed among before long =
      let first : Name = with_first (if is_input n.kind then event else unit) n in
      let count = length (arguments_of domains n) in
      let e = if is_input n.kind then event + count else event in
      let u = if is_input n.kind then unit else unit + count in
      let own = units_by domains all (start, first) in
      let longer : length (before ++ own) ≡ u =
      length-append before own ∙ ap (λ m. m + length own) long ∙ count_by_kind (is_input n.kind)
      unit count (units_of_name domains all start first) (count_units start first) in
      let next : start + 1 + place ≡ start + suc place = omega arith in
      ap (λ us. slice_get us (name.first + number))
      (sym (append_assoc before own (flat_map (units_by domains all) (enumerate_from (start + 1)
      (numbered domains e u ns)))))
      ∙ unit_behind ns (start + 1) e u place name number args at computed among (before ++ own)
      longer
      ∙ ap (λ m. Some (unit_of all m name args (name.first + number))) next

  -- a unit among those that begin with a number
  record IsAmong (names : List Name) (start from k : ℕ) (unit : PlainUnit) : Type 0 where
    name : Name
    place : ℕ
    at : slice_get names place ≡ Some name
    named : unit.name ≡ start + place
    computed : is_input name.kind ≡ false
    number : ℕ
    inside : number < length (arguments_of domains name)
    args : slice_get (arguments_of domains name) number ≡ Some unit.args
    index : name.first + number ≡ from + k
    kind : unit.kind ≡ kind_by name.kind (length name.values) (instances_at (from + k) all)

  one_more : (n : Name) (names : List Name) (start from from' k j : ℕ) (unit : PlainUnit)
      → from' + j ≡ from + k → IsAmong names (start + 1) from' j unit
      → IsAmong (n ∷ names) start from k unit
  one_more n names start from from' k j unit e among = record {
    name = among.name;
    place = suc among.place;
    at = among.at;
    named = among.named ∙ omega arith;
    computed = among.computed;
    number = among.number;
    inside = among.inside;
    args = among.args;
    index = among.index ∙ e;
    kind = among.kind ∙ ap (λ m. kind_by among.name.kind (length among.name.values)
        (instances_at m all)) e;
  }

  own_unit : (names : List Name) (start from k : ℕ) (name : Name) (unit : PlainUnit)
      → is_input name.kind ≡ false → name.first ≡ from → (o : Option (List ℕ))
      → slice_get (arguments_of domains name) k ≡ o
      → option_map (λ (u : ℕ × List ℕ). unit_of all start name u.1 u.0)
      (option_map (λ x. (name.first + k, x)) o) ≡ Some unit → IsAmong (name ∷ names) start from k
      unit
  own_unit names start from k name unit computed begin None e f = absurd (none-some unit f)
  own_unit names start from k name unit computed begin (Some args) e f =
      let same : unit_of all start name args (name.first + k) ≡ unit =
      same_Some (unit_of all start name args (name.first + k)) unit f in
      let number : name.first + k ≡ from + k = ap (λ m. m + k) begin in
      record {
        name = name;
        place = zero;
        at = refl;
        named = ap (λ (u : PlainUnit). u.name) (sym same) ∙ omega arith;
        computed = computed;
        number = k;
        inside = slice_get_within (arguments_of domains name) k args e;
        args = e ∙ ap (λ (u : PlainUnit). Some u.args) same;
        index = number;
        kind = ap (λ (u : PlainUnit). u.kind) (sym same)
            ∙ ap (λ m. kind_by name.kind (length name.values) (instances_at m all)) number;
      }

  one_name : (b : Bool) (first : Name) (names : List Name) (others : List PlainUnit)
      (start from from' k : ℕ) (unit : PlainUnit) → is_input first.kind ≡ b
      → from' ≡ (if b then from else from + length (arguments_of domains first))
      → (b ≡ false → first.first ≡ from)
      → ((j : ℕ) → slice_get others j ≡ Some unit → IsAmong names (start + 1) from' j unit)
      → slice_get ((if b then [] else units_of_name domains all start first) ++ others) k
      ≡ Some unit → IsAmong (first ∷ names) start from k unit
  one_name true first names others start from from' k unit kind next begin rest e =
      one_more first names start from from' k k unit (omega (arith, next)) (rest k e)
  one_name false first names others start from from' k unit kind next begin rest e =
      by (get_either (units_of_name domains all start first) others k unit e)
    where
      by : (slice_get (units_of_name domains all start first) k ≡ Some unit)
          ⊎ ((j : ℕ) × (k ≡ length (units_of_name domains all start first) + j)
          × (slice_get others j ≡ Some unit)) → IsAmong (first ∷ names) start from k unit
      by (inl h) =
          own_unit names start from k first unit kind (begin refl)
          (slice_get (arguments_of domains first) k) refl
          (sym (slice_get-map (λ u. unit_of all start first u.1 u.0) (enumerate_from first.first
          (arguments_of domains first)) k
          ∙ ap (option_map (λ u. unit_of all start first u.1 u.0))
          (slice_get-enumerate_from first.first (arguments_of domains first) k)) ∙ h)
      by (inr (j, f, g)) = one_more first names start from from' k j unit
          (omega (arith, next, f, count_units start first)) (rest j g)

  among_by : (declared : List Name) (start event unit k : ℕ) (found : PlainUnit)
      → slice_get (flat_map (units_by domains all)
      (enumerate_from start (numbered domains event unit declared))) k ≡ Some found
      → IsAmong (numbered domains event unit declared) start unit k found
  among_by [] start event unit k found e = absurd (none-some found e)
  among_by (n ∷ ns) start event unit k found e =
      let first : Name = with_first (if is_input n.kind then event else unit) n in
      let count = length (arguments_of domains n) in
      let next_event = if is_input n.kind then event + count else event in
      let next_unit = if is_input n.kind then unit else unit + count in
      one_name (is_input n.kind) first (numbered domains next_event next_unit ns)
      (flat_map (units_by domains all) (enumerate_from (start + 1) (numbered domains next_event
      next_unit ns)))
      start unit next_unit k found refl refl (λ h. ap (λ b. if b then event else unit) h)
      (λ j h. among_by ns (start + 1) next_event next_unit j found h) e

-- ---- input events

more_events : (b : Bool) (event count : ℕ) → (if b then event + count else event)
    ≡ event + (if b then count else 0)
more_events true event count = refl
more_events false event count = omega arith

event_among : (domains : List Domain) (declared : List Name) (event unit place : ℕ) (name : Name)
    (number : ℕ) → slice_get (numbered domains event unit declared) place ≡ Some name
    → is_input name.kind ≡ true → number < length (arguments_of domains name)
    → name.first + number < event + event_count domains declared
event_among domains [] event unit place name number at input inside = absurd (none-some name at)
event_among domains (n ∷ ns) event unit zero name number at input inside =
    let first : Name = with_first (if is_input n.kind then event else unit) n in
    let same : first ≡ name = same_Some first name at in
    let here : is_input n.kind ≡ true = ap (λ (x : Name). is_input x.kind) same ∙ input in
    let begin : name.first ≡ event = ap (λ (x : Name). x.first) (sym same)
    ∙ ap (λ b. if b then event else unit) here in
    let count : length (arguments_of domains name) ≡ length (arguments_of domains n) =
    ap (λ (x : Name). length (arguments_of domains x)) (sym same) in
    let counted : event_count domains (n ∷ ns) ≡ length (arguments_of domains n) + event_count
    domains ns =
    sum_by-cons (λ name. if is_input name.kind then length (arguments_of domains name) else 0) n ns
    ∙ ap (λ b. (if b then length (arguments_of domains n) else 0) + event_count domains ns) here in
    omega (arith, begin, count, counted, inside)
event_among domains (n ∷ ns) event unit (suc place) name number at input inside =
    let count = length (arguments_of domains n) in
    let rest = event_among domains ns (if is_input n.kind then event + count else event)
    (if is_input n.kind then unit else unit + count) place name number at input inside in
    let counted = sum_by-cons (λ name. if is_input name.kind
    then length (arguments_of domains name) else 0) n ns in
    let more = more_events (is_input n.kind) event count in
    omega (arith, rest, counted, more)

module _ (domains : List Domain) (declared : List Name) (all : List Instance) where
  abbrev names : List Name
  names = numbered domains 0 0 declared

  -- a number of a name that is no input event is that of its unit
  pub unit_at : (place : ℕ) (name : Name) (number : ℕ) (args : List ℕ) → slice_get names place
      ≡ Some name → is_input name.kind ≡ false
      → slice_get (arguments_of domains name) number ≡ Some args
      → slice_get (units_of domains names all) (name.first + number)
      ≡ Some (unit_of all place name args (name.first + number))
  unit_at place name number args at computed among =
      unit_behind domains all declared 0 0 0 place name number args at computed among [] refl
      ∙ ap (λ m. Some (unit_of all m name args (name.first + number))) (omega arith)

  -- each unit is that of a name
  pub unit_found : (k : ℕ) (unit : PlainUnit) → slice_get (units_of domains names all) k
      ≡ Some unit → IsUnitAt domains names all k unit
  unit_found k unit e =
      let found = among_by domains all declared 0 0 0 k unit e in
      let here : unit.name ≡ found.place = found.named ∙ omega arith in
      let number : 0 + k ≡ k = omega arith in
      record {
        name = found.name;
        at = ap (slice_get names) here ∙ found.at;
        computed = found.computed;
        number = found.number;
        inside = found.inside;
        args = found.args;
        index = found.index ∙ number;
        kind = found.kind ∙ ap (λ m. kind_by found.name.kind (length found.name.values)
            (instances_at m all)) number;
      }

  -- a number of an input event is below the count of events
  pub event_at : (place : ℕ) (name : Name) (number : ℕ) → slice_get names place ≡ Some name
      → is_input name.kind ≡ true
      → number < length (arguments_of domains name) → name.first + number < event_count domains
      declared
  event_at place name number at input inside =
      let below = event_among domains declared 0 0 place name number at input inside in
      omega (arith, below)
