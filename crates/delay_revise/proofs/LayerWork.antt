-- What was made of the units of the open layer is kept, and layers are worked one after the other.
use Rattle.std.proofs.Common.{◌≡◌, ◌∙◌, ℕ, zero, suc, ◌+◌, ◌<◌, ◌≤◌, Bool, true, false, ◌&&◌}
use Rattle.std.proofs.Common.{◌||◌, take, get_or, Option, None, sum_by, take_all}
use Rattle.std.proofs.Common.{eqb, List, [], ◌∷◌, ◌++◌, map, length, slice_get, slice_set}
use Rattle.std.proofs.Common.{inl, inr, Some, refl, sym, ap, ap₂, subst, arith}
use Rattle.std.specs.Prelude.{is_some}
use Rattle.std.specs.List.{list_all, list_any, slice_index_or, AllByRecursion, IsDistinct}
use Rattle.std.proofs.lemmas.Bool.{cases_lt, or_right, or_parts, and_parts}
use Rattle.std.proofs.lemmas.Bool.Decides.{nat_tests}
use Rattle.std.proofs.lemmas.List.{length-map}
use Rattle.std.proofs.lemmas.List.Sums.{sum_by_more, sum_by_more_le}
use Rattle.std.proofs.lemmas.Map.Steps.{length-le_from_distinct_below}
use Rattle.std.proofs.lemmas.Option.{slice_get_read, same_Some}
use Rattle.layer_workers.specs.Answers.{AreAnswers, cost_below}
use Rattle.rt_base.specs.Counted.{Counted}
use Rattle.ground_types.specs.Meaning.{is_layer, are_layers}
use Rattle.ground_types.specs.Members.{contains}
use Rattle.ground_types.specs.declared.program.Program.{Program}
use Rattle.ground_types.proofs.Members.{contains_hit}
use Rattle.delay_revise.specs.Going.{IsRevising, Parts}
use Rattle.delay_revise.specs.Layers.{unit_at, layer_triggers}
use Rattle.delay_revise.specs.Revising.{Revising, Made, IsWorkOf, is_kept, open_units}
use Rattle.delay_revise.specs.Revising.{layer_or_none, number_of, trigger_points}
use Rattle.delay_revise.specs.Revising.{trigger_points_of_unit}
use Rattle.delay_revise.proofs.LayerParts.{IsFirstUnit, first_unit}
use Rattle.delay_revise.proofs.UnitWork.{open_known}

-- ---- answers, from the last one on

still_there : {X : Type 0} (xs more : List X) (place : ℕ) (item : X)
    → slice_get xs place ≡ Some item → slice_get (xs ++ more) place ≡ Some item
still_there [] more place item is = cc
still_there (x ∷ xs) more zero item is = is
still_there (x ∷ xs) more (suc place) item is = still_there xs more place item is

last_there : {X : Type 0} (xs : List X) (x : X) → slice_get (xs ++ x ∷ []) (length xs) ≡ Some x
last_there [] x = refl
last_there (y ∷ xs) x = last_there xs x

-- the last answer is one for the number of those before it
pub last_answer : {X : Type 0} (answers : ℕ → X → Type 0) (n : ℕ) (all xs : List X) (x : X)
    → AreAnswers answers n all → all ≡ xs ++ x ∷ [] → answers (length xs) x
last_answer {X} answers n all xs x are is =
    are.each (length xs) x (ap (λ (l : List X). slice_get l (length xs)) is ∙ last_there xs x)

-- and the others are answers without it
pub first_answers : {X : Type 0} (answers : ℕ → X → Type 0) (n : ℕ) (all xs : List X) (x : X)
    → AreAnswers answers n all → all ≡ xs ++ x ∷ [] → AreAnswers answers (length xs) xs
first_answers {X} answers n all xs x are is = record {
  long = refl;
  each = λ place item at. are.each place item
      (ap (λ (l : List X). slice_get l place) is ∙ still_there xs (x ∷ []) place item at);
}

pub contains_at : (xs : List ℕ) (place : ℕ) → place < length xs
    → contains xs (unit_at xs place) ≡ true
contains_at [] place within = absurd (omega (arith, within))
contains_at (x ∷ xs) zero within = contains_hit x xs x refl
contains_at (x ∷ xs) (suc place) within =
    or_right (eqb x (unit_at xs place)) (contains xs (unit_at xs place))
    (contains_at xs place (omega (arith, within)))

-- ---- units that are kept

-- what was made of a unit stays that, whichever units are kept
pub work_kept : (r now : Revising) (unit : ℕ) (made : Made) (kept : List Bool)
    → now ≡ record r { kept = kept } → IsWorkOf r unit made → IsWorkOf now unit made
work_kept r now unit made kept same is =
    subst (λ (s : Revising). IsWorkOf s unit made) (sym same) (record {
      rows = is.rows;
      evaluations = is.evaluations;
    })

-- one more unit is kept
pub kept_again : (r now next : Revising) (kept more : List Bool) → now ≡ record r { kept = kept }
    → next ≡ record now { kept = more } → next ≡ record r { kept = next.kept }
kept_again r now next kept more same again =
    let with : List Bool → Revising = λ k. record r { kept = k } in
    again
    ∙ ap (λ (s : Revising). let after : Revising = record s { kept = more } in after) same
    ∙ ap with (sym (ap (λ (s : Revising). s.kept) again))

pub kept_size : (r : Revising) (p : Parts) → IsRevising r p → r.kept ≡ map is_some p.counts
    → length r.kept ≡ length r.program.units
kept_size r p is same =
    ap (λ (l : List Bool). length l) same ∙ length-map p.counts is_some ∙ is.kept.size

kept_here : (kept : List Bool) (unit : ℕ) → unit < length kept
    → slice_index_or (slice_set kept unit true) unit false ≡ true
kept_here [] unit within = absurd (omega (arith, within))
kept_here (x ∷ xs) zero within = refl
kept_here (x ∷ xs) (suc unit) within = kept_here xs unit (omega (arith, within))

pub kept_still : (kept : List Bool) (unit other : ℕ) → slice_index_or kept other false ≡ true
    → slice_index_or (slice_set kept unit true) other false ≡ true
kept_still [] unit other is = is
kept_still (x ∷ xs) zero zero is = refl
kept_still (x ∷ xs) zero (suc other) is = is
kept_still (x ∷ xs) (suc unit) zero is = is
kept_still (x ∷ xs) (suc unit) (suc other) is = kept_still xs unit other is

-- ---- the units of a layer, from the last one on

-- a unit of the open layer is one of the program
pub open_at : (r now : Revising) (p : Parts) (units : List ℕ) (place : ℕ) → IsRevising r p
    → r ≡ now → units ≡ open_units now → place < length units
    → unit_at units place < length r.program.units
open_at r now p units place is same opened within =
    open_known r p (unit_at units place) is
    (ap (λ (l : List ℕ). contains l (unit_at units place))
    (ap open_units same ∙ sym opened) ∙ contains_at units place within)

-- one more unit is kept, of the place before some up to another
pub one_more_kept : (units : List ℕ) (now next : Revising) (from here to : ℕ)
    → ((place : ℕ) → from ≤ place → place < to → is_kept now (unit_at units place) ≡ true)
    → next ≡ record now { kept = slice_set now.kept (unit_at units here) true }
    → here + 1 ≡ from → unit_at units here < length now.kept → (place : ℕ) → here ≤ place
    → place < to → is_kept next (unit_at units place) ≡ true
one_more_kept units now next from here to all put before within place low high =
    subst (λ (s : Revising). is_kept s (unit_at units place) ≡ true) (sym put)
    (elim (cases_lt here place) [
      | inl later ↦ kept_still now.kept (unit_at units here) (unit_at units place)
          (all place (omega arith) high)
      | inr first ↦ (let same : place ≡ here = omega arith in
          subst (λ (n : ℕ). slice_index_or (slice_set now.kept (unit_at units here) true)
          (unit_at units n) false ≡ true) (sym same)
          (kept_here now.kept (unit_at units here) within))
    ])

-- a layer at each of whose places the unit is kept
pub all_kept : (r : Revising) (units : List ℕ)
    → ((place : ℕ) → place < length units → is_kept r (unit_at units place) ≡ true)
    → list_all (is_kept r) units ≡ true
all_kept r [] each = refl
all_kept r (unit ∷ units) each =
    ap₂ (λ (a b : Bool). a && b) (each zero (omega arith))
    (all_kept r units (λ place within. each (suc place) (omega (arith, within))))

-- ---- how many units are open, and what they cost

turned : (x y : ℕ) → eqb x y ≡ eqb y x
turned x y = grind (arith, nat_tests)

contains_turned : (xs : List ℕ) (x : ℕ) → list_any (eqb x) xs ≡ contains xs x
contains_turned [] x = refl
contains_turned (y ∷ ys) x =
    ap₂ (λ (a b : Bool). a || b) (turned x y) (contains_turned ys x)

apart_all : (x : ℕ) (xs : List ℕ) → contains xs x ≡ false → AllByRecursion (λ y. eqb x y ≡ false) xs
apart_all x [] none = tt
apart_all x (y ∷ ys) none =
    let both = or_parts (eqb y x) (contains ys x) none in
    (turned x y ∙ both.0, apart_all x ys both.1)

distinct_layer : (program : Program) (below units : List ℕ) → is_layer program below units ≡ true
    → IsDistinct eqb units
unfolding IsDistinct
distinct_layer program below [] is = tt
distinct_layer program below (x ∷ xs) is =
    let first : IsFirstUnit program below x xs = first_unit program below x xs is in
    (apart_all x xs first.once, distinct_layer program below xs first.others)

distinct_at : (program : Program) (below : List ℕ) (layers : List (List ℕ)) (layer : ℕ)
    (o : Option (List ℕ)) → are_layers program below layers ≡ true → slice_get layers layer ≡ o
    → IsDistinct eqb (layer_or_none o)
unfolding IsDistinct
distinct_at program below layers layer None are at = tt
distinct_at program below [] layer (Some units) are at = cc
distinct_at program below (first ∷ rest) zero (Some units) are at =
    subst (IsDistinct eqb) (same_Some first units at) (distinct_layer program below first
    (and_parts (is_layer program below first) (are_layers program (below ++ first) rest) are).0)
distinct_at program below (first ∷ rest) (suc layer) (Some units) are at =
    distinct_at program (below ++ first) rest layer (Some units)
    (and_parts (is_layer program below first) (are_layers program (below ++ first) rest) are).1 at

few_inside : (r : Revising) (p : Parts) → IsRevising r p → length (open_units r) ≤ 65536
few_inside r p is =
    omega (
      arith,
      length-le_from_distinct_below (open_units r) (length r.program.units)
          (distinct_at r.program [] r.program.layers r.layer (slice_get r.program.layers r.layer)
          is.sound.layers.order refl)
          (λ unit any. open_known r p unit is (sym (contains_turned (open_units r) unit) ∙ any)),
      is.sound.units_most,
    )

-- there are no more open units than units of the program
pub few_open : (r now : Revising) (p : Parts) (units : List ℕ) → IsRevising r p → r ≡ now
    → units ≡ open_units now → length units ≤ 65536
few_open r now p units is same opened =
    subst (λ (l : List ℕ). length l ≤ 65536) (ap open_units same ∙ sym opened)
    (few_inside r p is)

-- the units that are read of the open layer are the open ones
pub open_read : (r now : Revising) (p : Parts) (layers : List (List ℕ)) (row units : List ℕ)
    → IsRevising r p → r ≡ now → layers ≡ r.program.layers
    → now.layer < length now.program.layers → row ≡ get_or layers r.layer row → units ≡ row
    → units ≡ open_units now
open_read r now p layers row units is same read within at taken =
    let inside : r.layer < length r.program.layers =
    subst (λ (s : Revising). s.layer < length s.program.layers) (sym same) within in
    taken
    ∙ sym (ap layer_or_none (slice_get_read r.program.layers (length r.program.layers) r.layer row
    refl inside (at ∙ ap (λ (l : List (List ℕ)). get_or l r.layer row) read)))
    ∙ ap open_units same

cost_until : (cost : ℕ → ℕ) (units : List ℕ) (n : ℕ) → n ≤ length units
    → cost_below (λ number. cost (unit_at units number)) n ≡ sum_by cost (take n units)
cost_until cost units zero within = refl
cost_until cost units (suc n) within =
    let next : suc n ≡ n + 1 = omega arith in
    omega (
      arith,
      cost_until cost units n (omega (arith, within)),
      sum_by_more cost units n 0 (omega (arith, within)),
      ap (λ (k : ℕ). sum_by cost (take k units)) next,
    )

-- the units of the open layer cost what their triggers count
pub layer_cost : (r : Revising) (units : List ℕ) → units ≡ open_units r
    → cost_below (λ number. trigger_points_of_unit r.program r.taken (number_of r)
    (unit_at units number)) (length units)
    ≡ layer_triggers r.program r.taken (number_of r) (open_units r)
layer_cost r units same =
    let cost : ℕ → ℕ = trigger_points_of_unit r.program r.taken (number_of r) in
    cost_until cost units (length units) (omega arith)
    ∙ ap (sum_by cost) (take_all (length units) units (omega arith) ∙ same)

-- ---- layers, one after the other

-- so many layers of a reviser are worked, with these steps before and after
pub record AreWorked (r : Revising) (before : Counted) (n : ℕ) (now : Revising)
    (after : Counted) : Type 0 where
  pub same : now ≡ record r { layer = n; kept = now.kept }
  pub count : after.count ≡ before.count + sum_by (λ layer. layer_triggers r.program r.taken
      (number_of r) layer) (take n r.program.layers)
  pub out : after.out ≡ before.out

pub none_worked : (r : Revising) (steps : Counted) → r.layer ≡ 0 → AreWorked r steps 0 r steps
none_worked r steps first = record {
  same = ap (λ (n : ℕ). let at : Revising = record r { layer = n } in at) first;
  count = omega arith;
  out = refl;
}

open_get : (layers : List (List ℕ)) (n : ℕ) → n < length layers
    → layer_or_none (slice_get layers n) ≡ get_or layers n []
open_get [] n within = absurd (omega (arith, within))
open_get (layer ∷ rest) zero within = refl
open_get (layer ∷ rest) (suc n) within = open_get rest n (omega (arith, within))

-- what the open layer costs, by its number
cost_of_next : (r now : Revising) (n : ℕ) (kept : List Bool)
    → now ≡ record r { layer = n; kept = kept } → n < length r.program.layers
    → layer_triggers now.program now.taken (number_of now) (open_units now)
    ≡ layer_triggers r.program r.taken (number_of r) (get_or r.program.layers n [])
cost_of_next r now n kept same within =
    ap (λ (s : Revising). layer_triggers s.program s.taken (number_of s) (open_units s)) same
    ∙ ap (λ (units : List ℕ). layer_triggers r.program r.taken (number_of r) units)
    (open_get r.program.layers n within)

pub one_more_worked : (r : Revising) (before : Counted) (n : ℕ) (now next : Revising)
    (after later : Counted) → AreWorked r before n now after → n < length r.program.layers
    → next ≡ record now { layer = now.layer + 1; kept = next.kept }
    → later.count ≡ after.count + layer_triggers now.program now.taken (number_of now)
    (open_units now) → later.out ≡ after.out → AreWorked r before (n + 1) next later
one_more_worked r before n now next after later are within ended cost out = record {
  same = ended ∙ ap (λ (s : Revising). let at : Revising = record s {
    layer = s.layer + 1;
    kept = next.kept;
  } in at) are.same;
  count = omega (
    arith,
    cost,
    are.count,
    cost_of_next r now n now.kept are.same within,
    sum_by_more (λ (layer : List ℕ). layer_triggers r.program r.taken (number_of r) layer)
        r.program.layers n [] within,
  );
  out = out ∙ are.out;
}

-- at most as many steps as all layers take
pub worked_most : (r : Revising) (before : Counted) (n : ℕ) (now : Revising)
    (after later : Counted) → AreWorked r before n now after → n < length r.program.layers
    → later.count ≤ after.count + layer_triggers now.program now.taken (number_of now)
    (open_units now)
    → later.count ≤ before.count + trigger_points r.program r.taken (number_of r)
worked_most r before n now after later are within most =
    omega (
      arith,
      most,
      are.count,
      cost_of_next r now n now.kept are.same within,
      sum_by_more_le (λ (layer : List ℕ). layer_triggers r.program r.taken (number_of r) layer)
          r.program.layers n [] within,
    )

pub all_worked : (r : Revising) (before : Counted) (n : ℕ) (now : Revising) (after : Counted)
    → AreWorked r before n now after → n ≡ length r.program.layers
    → after.count ≡ before.count + trigger_points r.program r.taken (number_of r)
all_worked r before n now after are last =
    are.count
    ∙ ap (λ (layers : List (List ℕ)). before.count + sum_by (λ layer. layer_triggers r.program
    r.taken (number_of r) layer) layers) (take_all n r.program.layers (omega (arith, last)))
