-- The ground input events of a sound program are those of the last input name that begins at or
-- before theirs.
use Rattle.std.proofs.Common.{◌≡◌, ℕ, zero, suc, ◌+◌, ◌-◌, ◌<◌, ◌≤◌, Bool, true, false, cond}
use Rattle.std.proofs.Common.{leb, nat_lt, if◌then◌else◌, List, [], ◌∷◌, ◌++◌, map, flat_map}
use Rattle.std.proofs.Common.{filter}
use Rattle.std.proofs.Common.{get_or, length, slice_get, option_map, option_and_then, Option, Some}
use Rattle.std.proofs.Common.{None, IfSome, option_copied, Bor, refl, sym, subst, ap, ◌∙◌, arith}
use Rattle.std.specs.List.{list_all}
use Rattle.std.specs.List.Sorted.{IsNonDecreasingBy, IsPartitionPoint}
use Rattle.std.proofs.lemmas.Bool.{and_parts, le-leb, leb-true, ltb-true, ltb-false}
use Rattle.std.proofs.lemmas.List.{length-map, get_or-map}
use Rattle.std.proofs.lemmas.Option.{none-some, same_Some, slice_get-map, slice_get_past}
use Rattle.std.proofs.lemmas.Option.{get_or_from_slice_get}
use Rattle.ground_types.specs.Sound.{is_input, arguments_of, are_numbered}
use Rattle.ground_types.specs.declared.program.Name.{Name}
use Rattle.ground_types.specs.declared.program.Program.{Program}
use Rattle.ground_names.specs.EventAtoms.{atoms_of_input, event_atoms}
use Rattle.ground_names.specs.EventNames.{inputs, head_at, IsSplit}
use Rattle.ground_names.proofs.Ordered.{get_front, get_back}
use Rattle.ground_names.proofs.SmallNumbers.{next_number}

-- what passes a test of all items, also where only some items are left
module _ {X : Type 0} (p q : X → Bool) where
  all_left : (xs : List X) → list_all q xs ≡ true → list_all q (filter p xs) ≡ true
  all_left [] all = refl
  all_left (x ∷ xs) all =
      let parts = and_parts (q x) (list_all q xs) all in
      by (p x) parts.0 (all_left xs parts.1)
    where
      by : (b : Bool) → q x ≡ true → list_all q (filter p xs) ≡ true
          → list_all q (cond b (x ∷ filter p xs) (filter p xs)) ≡ true
      by true one rest = rw one rest
      by false one rest = rest

  passes_at : (xs : List X) (k : ℕ) (y : X) → list_all q xs ≡ true → slice_get xs k ≡ Some y
      → q y ≡ true
  passes_at [] k y all at = absurd (none-some y at)
  passes_at (x ∷ xs) zero y all at = subst (λ z. q z ≡ true) (same_Some x y at)
      (and_parts (q x) (list_all q xs) all).0
  passes_at (x ∷ xs) (suc k) y all at = passes_at xs k y (and_parts (q x) (list_all q xs) all).1 at

  pub left_passes : (xs : List X) (k : ℕ) (y : X) → list_all q xs ≡ true
      → slice_get (filter p xs) k ≡ Some y → q y ≡ true
  left_passes xs k y all at = passes_at (filter p xs) k y (all_left xs all) at

-- the last of the first items
abbrev pub last_of : {X : Type 0} → List X → ℕ → Option X
last_of xs zero = None
last_of xs (suc k) = slice_get xs k

split_rest : (event : ℕ) (name : Name) (names : List Name) (k : ℕ) → IsSplit event (name ∷ names)
    (suc k) → IsSplit event names k
split_rest event name names k split = record {
  few = omega (arith, split.few);
  low = λ i d h. split.low (suc i) d (omega (arith, h));
  high = λ i d h h'. split.high (suc i) d (omega (arith, h)) (omega (arith, h'));
}

module _ (program : Program) where
  abbrev heads : List Name → List (Name × List ℕ)
  heads names = flat_map (atoms_of_input program.domains) names

  abbrev count : Name → ℕ
  count name = length (arguments_of program.domains name)

  abbrev own : Name → List (Name × List ℕ)
  own name = map (λ args. (name, args)) (arguments_of program.domains name)

  abbrev head_of : ℕ → Option Name → Option (Name × List ℕ)
  head_of event o = option_and_then (head_at program.domains event) o

  -- the input names begin at the number or behind it
  at_least : (names : List Name) (first unit i : ℕ) (d : Name) → are_numbered program first unit
      names ≡ true → i < length (inputs names) → first ≤ (get_or (inputs names) i d).first
  at_least [] first unit i d e some = absurd (omega (arith, some))
  at_least (name ∷ names) first unit i d e some = by (is_input name.kind) refl some (λ f u j h h'.
      at_least names f u j d h h')
    where
      by : (b : Bool) → is_input name.kind ≡ b
          → i < length (cond b (name ∷ inputs names) (inputs names))
          → ((f u j : ℕ) → are_numbered program f u names ≡ true → j < length (inputs names)
          → f ≤ (get_or (inputs names) j d).first)
          → first ≤ (get_or (cond b (name ∷ inputs names) (inputs names)) i d).first
      by true kind some rest = later i (next_number program name names first unit e true kind) some
        where
          later : (i : ℕ) → (name.first ≡ first)
              × (are_numbered program (first + count name) unit names ≡ true)
              → i < suc (length (inputs names)) → first ≤ (get_or (name ∷ inputs names) i d).first
          later zero next some = omega (arith, next.0)
          later (suc j) next some = omega (
            arith,
            rest (first + count name) unit j next.1
                (omega (arith, some)),
          )
      by false kind some rest = rest first (unit + count name) i
          (next_number program name names first unit e false kind).1 some

  -- they are in the order of their events
  rising : (names : List Name) (first unit i j : ℕ) (d : Name) → are_numbered program first unit
      names ≡ true → i ≤ j → j < length (inputs names)
      → (get_or (inputs names) i d).first ≤ (get_or (inputs names) j d).first
  rising [] first unit i j d e le some = absurd (omega (arith, some))
  rising (name ∷ names) first unit i j d e le some = by (is_input name.kind) refl some
      (λ f u k l. rising names f u k l d)
    where
      by : (b : Bool) → is_input name.kind ≡ b
          → j < length (cond b (name ∷ inputs names) (inputs names))
          → ((f u k l : ℕ) → are_numbered program f u names ≡ true → k ≤ l
          → l < length (inputs names)
          → (get_or (inputs names) k d).first ≤ (get_or (inputs names) l d).first)
          → (get_or (cond b (name ∷ inputs names) (inputs names)) i d).first
          ≤ (get_or (cond b (name ∷ inputs names) (inputs names)) j d).first
      by true kind some rest = each i j le some
        where
          next : (name.first ≡ first)
              × (are_numbered program (first + count name) unit names ≡ true)
          next = next_number program name names first unit e true kind

          each : (i j : ℕ) → i ≤ j → j < suc (length (inputs names))
              → (get_or (name ∷ inputs names) i d).first ≤ (get_or (name ∷ inputs names) j d).first
          each zero zero le some = omega arith
          each zero (suc j) le some = omega (
            arith,
            next.0,
            at_least names (first + count name) unit
                j d next.1 (omega (arith, some)),
          )
          each (suc i) zero le some = absurd (omega (arith, le))
          each (suc i) (suc j) le some = rest (first + count name) unit i j next.1
              (omega (arith, le)) (omega (arith, some))
      by false kind some rest = rest first (unit + count name) i j
          (next_number program name names first unit e false kind).1 le some

  -- no later name begins at an event before them
  none_later : (names : List Name) (first unit event k : ℕ) → are_numbered program first unit names
      ≡ true → event < first → IsSplit event (inputs names) k → k ≡ zero
  none_later names first unit event zero e below split = refl
  none_later [] first unit event (suc k) e below split = absurd (omega (arith, split.few))
  none_later (name ∷ names) first unit event (suc k) e below split =
      let at = at_least (name ∷ names) first unit 0 name e (omega (arith, split.few)) in
      let low = leb-true (get_or (inputs (name ∷ names)) 0 name).first event (split.low 0 name
      (omega arith)) in
      absurd (omega (arith, at, low, below))

  -- an event of a name stands among those of the name
  inside : (name : Name) (names : List Name) (event : ℕ) → event - name.first < count name
      → slice_get (own name ++ heads names) (event - name.first) ≡ head_of event (Some name)
  inside name names event below =
      get_front (own name) (heads names) (event - name.first)
      (omega (
        arith,
        below,
        length-map {B = Name × List ℕ} (arguments_of program.domains name)
            (λ args. (name, args)),
      ))
      ∙ slice_get-map {B = Name × List ℕ} (λ args. (name, args)) (arguments_of program.domains name)
      (event - name.first)

  -- what comes behind the events of a name is of a later one
  behind : (name : Name) (names : List Name) (event : ℕ) → name.first + count name ≤ event
      → slice_get (own name ++ heads names) (event - name.first)
      ≡ slice_get (heads names) (event - (name.first + count name))
  behind name names event low =
      let place : event - name.first ≡ length (own name) + (event - (name.first + count name)) =
      omega (
        arith,
        low,
        length-map {B = Name × List ℕ} (arguments_of program.domains name)
            (λ args. (name, args)),
      ) in
      ap (slice_get (own name ++ heads names)) place
      ∙ get_back (own name) (heads names) (event - (name.first + count name))

  later : (name : Name) (names : List Name) (event k : ℕ) → name.first + count name ≤ event
      → head_of event (last_of names k) ≡ head_of event (slice_get (name ∷ names) k)
  later name names event zero low = sym (ap (option_map (λ args. (name, args)))
      (slice_get_past (arguments_of program.domains name) (event - name.first)
      (omega (arith, low))))
  later name names event (suc k) low = refl

  abbrev IsFound : List Name → List Name → ℕ → ℕ → ℕ → Type 0
  IsFound names ins first event k = slice_get (heads names) (event - first) ≡ head_of event
      (last_of ins k)

  abbrev Rest : List Name → ℕ → Type 0
  Rest names event = (f u j : ℕ) → f ≤ event → are_numbered program f u names ≡ true
      → IsSplit event (inputs names) j → IsFound names (inputs names) f event j

  -- an input name, of which the event is, or a later one
  by_place : (name : Name) (names : List Name) (unit event k : ℕ) → name.first ≤ event
      → are_numbered program (name.first + count name) unit names ≡ true
      → IsSplit event (name ∷ inputs names) (suc k) → Rest names event → (b : Bool)
      → nat_lt (event - name.first) (count name) ≡ b
      → slice_get (own name ++ heads names) (event - name.first) ≡ head_of event
      (slice_get (name ∷ inputs names) k)
  by_place name names unit event k low e split rest true is =
      let below = ltb-true (event - name.first) (count name) is in
      let none = none_later names (name.first + count name) unit event k e (omega (
        arith,
        below,
        low,
      )) (split_rest event name (inputs names) k split) in
      inside name names event below
      ∙ ap (λ j. head_of event (slice_get (name ∷ inputs names) j)) (sym none)
  by_place name names unit event k low e split rest false is =
      let past : name.first + count name ≤ event = omega (
        arith,
        low,
        ltb-false (event
            - name.first) (count name) is,
      ) in
      behind name names event past
      ∙ rest (name.first + count name) unit k past e (split_rest event name (inputs names) k split)
      ∙ later name (inputs names) event k past

  by_split : (name : Name) (names : List Name) (unit event k : ℕ) → name.first ≤ event
      → are_numbered program (name.first + count name) unit names ≡ true
      → IsSplit event (name ∷ inputs names) k → Rest names event
      → slice_get (own name ++ heads names) (event - name.first) ≡ head_of event
      (last_of (name ∷ inputs names) k)
  by_split name names unit event zero low e split rest =
      let no : true ≡ false = sym (le-leb name.first event low) ∙ split.high 0 name (omega arith)
      (omega arith) in
      cc
  by_split name names unit event (suc k) low e split rest = by_place name names unit event k low e
      split rest (nat_lt (event - name.first) (count name)) refl

  by_kind : (name : Name) (names : List Name) (first unit event k : ℕ) → first ≤ event
      → are_numbered program first unit (name ∷ names) ≡ true → (b : Bool)
      → is_input name.kind ≡ b → IsSplit event (cond b (name ∷ inputs names) (inputs names)) k
      → Rest names event
      → slice_get ((if b then own name else []) ++ heads names) (event - first) ≡ head_of event
      (last_of (cond b (name ∷ inputs names) (inputs names)) k)
  by_kind name names first unit event k low e true kind split rest =
      let next = next_number program name names first unit e true kind in
      let numbered : are_numbered program (name.first + count name) unit names ≡ true =
      ap (λ n. are_numbered program (n + count name) unit names) next.0 ∙ next.1 in
      ap (λ n. slice_get (own name ++ heads names) (event - n)) (sym next.0)
      ∙ by_split name names unit event k (omega (arith, low, next.0)) numbered split rest
  by_kind name names first unit event k low e false kind split rest =
      rest first (unit + count name) k low (next_number program name names first unit e false
      kind).1 split

  found_from : (names : List Name) (first unit event k : ℕ) → first ≤ event
      → are_numbered program first unit names ≡ true → IsSplit event (inputs names) k
      → IsFound names (inputs names) first event k
  found_from [] first unit event zero low e split = refl
  found_from [] first unit event (suc k) low e split = refl
  found_from (name ∷ names) first unit event k low e split =
      by_kind name names first unit event k low e (is_input name.kind) refl split
      (λ f u j. found_from names f u event j)

  pub inputs_rise : are_numbered program 0 0 program.names ≡ true
      → IsNonDecreasingBy (λ (name : Name). name.first) (inputs program.names)
  inputs_rise e = λ i j d le some. rising program.names 0 0 i j d e le some

  -- an event is of the last input name that begins at it or before it, or there is no such event
  pub found_at : (event k : ℕ) → are_numbered program 0 0 program.names ≡ true
      → IsSplit event (inputs program.names) k
      → slice_get (event_atoms program) event ≡ option_and_then (head_at program.domains event)
      (last_of (inputs program.names) k)
  found_at event k e split =
      let at : event ≡ event - 0 = omega arith in
      ap (slice_get (event_atoms program)) at
      ∙ found_from program.names 0 0 event k (omega arith) e split

  -- the same where there is such a name
  pub found_before : (event k : ℕ) → are_numbered program 0 0 program.names ≡ true
      → IsSplit event (inputs program.names) k → 0 < k
      → slice_get (event_atoms program) event ≡ option_and_then (head_at program.domains event)
      (slice_get (inputs program.names) (k - 1))
  found_before event zero e split some = absurd (omega (arith, some))
  found_before event (suc k) e split some =
      let at : k ≡ suc k - 1 = omega arith in
      found_at event (suc k) e split
      ∙ ap (λ i. head_of event (slice_get (inputs program.names) i)) at

-- the name before the border of names that begin at an event or before it
module _ (names : List Name) (event k : ℕ) (some : 0 < k) (lent : Option (Bor Name))
    (at : option_copied lent ≡ slice_get (inputs names) (k - 1)) where
  pub lent_first : IsSplit event (inputs names) k → IfSome lent (λ name. name.now.first ≤ event)
  lent_first split = by lent at
    where
      by : (o : Option (Bor Name)) → option_copied o ≡ slice_get (inputs names) (k - 1)
          → IfSome o (λ name. name.now.first ≤ event)
      by None is = tt
      by (Some name) is =
          let same = get_or_from_slice_get (inputs names) (k - 1) name.now name.now (sym is) in
          let low = leb-true (get_or (inputs names) (k - 1) name.now).first event
          (split.low (k - 1) name.now (omega (arith, some))) in
          omega (arith, low, ap (λ (n : Name). n.first) same)

  pub lent_passes : (q : Name → Bool) → list_all q names ≡ true → IfSome lent (λ name. q name.now
      ≡ true)
  lent_passes q all = by lent at
    where
      by : (o : Option (Bor Name)) → option_copied o ≡ slice_get (inputs names) (k - 1)
          → IfSome o (λ name. q name.now ≡ true)
      by None is = tt
      by (Some name) is = left_passes (λ name. is_input name.kind) q names (k - 1) name.now all
          (sym is)

-- ---- names that are lent

module _ {R : Type 0} (now : R → Name) where
  item : (refs : List R) (i : ℕ) (r : R) (d : Name) → i < length refs
      → get_or (map now refs) i d ≡ now (get_or refs i r)
  item refs i r d inside = get_or-map now refs i r d inside

  pub lent_rise : (refs : List R) → IsNonDecreasingBy (λ (name : Name). name.first) (map now refs)
      → IsNonDecreasingBy (λ r. (now r).first) refs
  lent_rise refs rise = λ i j r le inside.
      let high = rise i j (now r) le (omega (arith, inside, length-map refs now)) in
      omega (
        arith,
        high,
        ap (λ (n : Name). n.first) (item refs i r (now r) (omega (arith, le, inside))),
        ap (λ (n : Name). n.first) (item refs j r (now r) inside),
      )

  pub lent_split : (refs : List R) (event k : ℕ) → k ≤ length refs
      → IsPartitionPoint (λ r. leb (now r).first event ≡ true)
      (λ r. leb (now r).first event ≡ false) refs k
      → IsSplit event (map now refs) k
  lent_split [] event k few parts = record {
    few = few;
    low = λ i d h. absurd (omega (arith, few, h));
    high = λ i d h h'. absurd (omega (arith, h'));
  }
  lent_split (r ∷ refs) event k few parts = record {
    few = omega (arith, few, length-map (r ∷ refs) now);
    low = λ i d h.
        ap (λ (n : Name). leb n.first event) (item (r ∷ refs) i r d (omega (arith, few, h)))
        ∙ parts.0 i r (omega arith) h;
    high = λ i d h h'.
        let inside : i < length (r ∷ refs) = omega (arith, h', length-map (r ∷ refs) now) in
        ap (λ (n : Name). leb n.first event) (item (r ∷ refs) i r d inside)
        ∙ parts.1 i r h inside;
  }
