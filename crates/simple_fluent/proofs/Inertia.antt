-- Inertia, a point at a time, and over the points at which nothing happens.
use Rattle.std.proofs.Common.{◌≡◌, ℕ, zero, suc, ◌+◌, ◌-◌, ◌<◌, ◌≤◌, min, Bool, true, false, cond}
use Rattle.std.proofs.Common.{◌||◌, eqb, List, [], ◌∷◌, length, get_or, fold, Option, Some, None}
use Rattle.std.proofs.Common.{refl, sym, ◌∙◌, ap, arith}
use Rattle.std.specs.List.{AllByRecursion}
use Rattle.std.proofs.lemmas.Bool.Decides.{nat_tests}
use Rattle.ground_types.specs.Members.{contains}
use Rattle.ground_types.specs.Inertia.{first_value, kept_unless, next_value, value_at, values_with}
use Rattle.ground_types.proofs.Inertia.{value_opens, value_goes_on}
use Rattle.simple_fluent.specs.Rows.{IsInside}
use Rattle.simple_fluent.specs.Firsts.{least_with}

-- the value of a fluent at a point
abbrev pub value : Option ℕ → List (List ℕ) → List (List ℕ) → ℕ → ℕ → Option ℕ
value opening inits terms w t = value_at opening (values_with 0 inits) (values_with 0 terms) w t

-- whether the value is terminated
abbrev pub ended : List (List ℕ) → Option ℕ → ℕ → Bool
ended terms None t = false
ended terms (Some v) t = contains (get_or terms v []) t

-- the value after a point: one that begins, or else none after one that is ended
abbrev pub after_event : Option ℕ → Bool → Option ℕ → Option ℕ
after_event (Some i) e v = Some i
after_event None true v = None
after_event None false v = v

abbrev pub among : List ℕ → Option ℕ → Bool
among gone None = false
among gone (Some v) = contains gone v

-- no value below the first is in the list
not_below_by : (n u : ℕ) (rest : List ℕ) (b : Bool) → u < n → contains rest u ≡ false
    → contains (cond b (n ∷ rest) rest) u ≡ false
not_below_by n u rest true lt go = let no : eqb n u ≡ false = grind (arith, nat_tests) in
    rw (no, go) refl
not_below_by n u rest false lt go = go

not_below : (n u : ℕ) (xs : List (List ℕ)) (t : ℕ) → u < n → contains (values_with n xs t) u ≡ false
not_below n u [] t lt = refl
not_below n u (p ∷ rest) t lt = not_below_by n u (values_with (n + 1) rest t) (contains p t) lt
    (not_below (n + 1) u rest t (omega arith))

ended_first : (u : ℕ) (rest : List ℕ) (b : Bool) → contains rest u ≡ false
    → contains (cond b (u ∷ rest) rest) u ≡ b
ended_first u rest true go = let yes : eqb u u ≡ true = grind (arith, nat_tests) in rw yes refl
ended_first u rest false go = go

ended_later : (u n : ℕ) (rest : List ℕ) (b : Bool) → u < n → contains (cond b (u ∷ rest) rest) n
    ≡ contains rest n
ended_later u n rest true lt = let no : eqb u n ≡ false = grind (arith, nat_tests) in rw no refl
ended_later u n rest false lt = refl

contains_with : (u : ℕ) (xs : List (List ℕ)) (v n t : ℕ) → u + v ≡ n
    → contains (values_with u xs t) n ≡ contains (get_or xs v []) t
contains_with u [] v n t is = refl
contains_with u (p ∷ rest) zero n t is =
    let same : u ≡ n = omega arith in
    rw (← same) (ended_first u (values_with (u + 1) rest t) (contains p t)
    (not_below (u + 1) u rest t (omega arith)))
contains_with u (p ∷ rest) (suc v) n t is =
    ended_later u n (values_with (u + 1) rest t) (contains p t) (omega arith)
    ∙ contains_with (u + 1) rest v n t (omega arith)

among_is : (terms : List (List ℕ)) (v : Option ℕ) (t : ℕ) → among (values_with 0 terms t) v
    ≡ ended terms v t
among_is terms None t = refl
among_is terms (Some v) t = contains_with 0 terms v v t (omega arith)

-- the first value is the least
fold_by : (u n : ℕ) (rest : List ℕ) (b : Bool) → u < n → fold min u rest ≡ u
    → fold min u (cond b (n ∷ rest) rest) ≡ u
fold_by u n rest true lt go = let same : min u n ≡ u = omega arith in
    ap (λ (m : ℕ). fold min m rest) same ∙ go
fold_by u n rest false lt go = go

fold_least : (u n : ℕ) (xs : List (List ℕ)) (t : ℕ) → u < n → fold min u (values_with n xs t) ≡ u
fold_least u n [] t lt = refl
fold_least u n (p ∷ rest) t lt = fold_by u n (values_with (n + 1) rest t) (contains p t) lt
    (fold_least u (n + 1) rest t (omega arith))

first_by : (u : ℕ) (rest : List ℕ) (o : Option ℕ) (b : Bool) → fold min u rest ≡ u
    → first_value rest ≡ o →
    first_value (cond b (u ∷ rest) rest) ≡ cond b (Some u) o
first_by u rest o true least go = ap Some least
first_by u rest o false least go = go

first_is : (u : ℕ) (xs : List (List ℕ)) (t : ℕ) → first_value (values_with u xs t)
    ≡ least_with u xs t
first_is u [] t = refl
first_is u (p ∷ rest) t = first_by u (values_with (u + 1) rest t) _ (contains p t)
    (fold_least u (u + 1) rest t (omega arith)) (first_is (u + 1) rest t)

unless_cond : (v : ℕ) (b : Bool) → cond b None (Some v) ≡ after_event None b (Some v)
unless_cond v true = refl
unless_cond v false = refl

unless_by : (gone : List ℕ) (v : Option ℕ) → kept_unless v gone ≡ after_event None (among gone v) v
unless_by gone None = refl
unless_by gone (Some v) = unless_cond v (contains gone v)

next_by_first : (v : Option ℕ) (starts gone : List ℕ) → next_value v starts gone
    ≡ after_event (first_value starts) (among gone v) v
next_by_first v [] gone = unless_by gone v
next_by_first v (i ∷ rest) gone = refl

pub value_first : (opening : Option ℕ) (inits terms : List (List ℕ)) (w : ℕ)
    → value opening inits terms w (w + 1) ≡ opening
value_first opening inits terms w = value_opens opening (values_with 0 inits) (values_with 0 terms)
    w

pub value_more : (opening : Option ℕ) (inits terms : List (List ℕ)) (w t : ℕ) → w < t →
    value opening inits terms w (t + 1)
    ≡ after_event (least_with 0 inits t) (ended terms (value opening inits terms w t) t)
    (value opening inits terms w t)
value_more opening inits terms w t above =
    value_goes_on opening (values_with 0 inits) (values_with 0 terms) w t above
    ∙ next_by_first (value opening inits terms w t) (values_with 0 inits t) (values_with 0 terms t)
    ∙ rw (first_is 0 inits t, among_is terms (value opening inits terms w t) t) refl

steady_by : (opening : Option ℕ) (inits terms : List (List ℕ)) (w a n : ℕ) (v : Option ℕ) → w < a
    → value opening inits terms w a ≡ v →
    ((t : ℕ) → a ≤ t → t < a + n → least_with 0 inits t ≡ None) → ((t : ℕ) → a ≤ t → t < a + n
    → ended terms v t ≡ false) →
    value opening inits terms w (a + n) ≡ v
steady_by opening inits terms w a zero v above is b e = ap (value opening inits terms w)
    (let z : a + 0 ≡ a = omega arith in z) ∙ is
steady_by opening inits terms w a (suc n) v above is b e =
    let next : a + suc n ≡ a + n + 1 = omega arith in
    let before : value opening inits terms w (a + n) ≡ v = steady_by opening inits terms w a n v
    above is (λ t le lt. b t le (omega arith)) (λ t le lt. e t le (omega arith)) in
    ap (value opening inits terms w) next ∙ value_more opening inits terms w (a + n) (omega arith)
    ∙ rw (before, b (a + n) (omega arith) (omega arith), e (a + n) (omega arith) (omega arith)) refl

-- the value stays as it is over points at which nothing happens
pub steady : (opening : Option ℕ) (inits terms : List (List ℕ)) (w a b : ℕ) (v : Option ℕ) → w < a
    → a ≤ b → value opening inits terms w a ≡ v →
    ((t : ℕ) → a ≤ t → t < b → least_with 0 inits t ≡ None) → ((t : ℕ) → a ≤ t → t < b
    → ended terms v t ≡ false) →
    value opening inits terms w b ≡ v
steady opening inits terms w a b v above le is no_begin no_end =
    let count : a + (b - a) ≡ b = omega arith in
    ap (value opening inits terms w) (sym count)
    ∙ steady_by opening inits terms w a (b - a) v above is (λ t low high.
    no_begin t low (omega arith)) (λ t low high. no_end t low (omega arith))

-- what happens lies in the window
pub record IsIn (w q t : ℕ) : Type 0 where
  pub above : w < t
  pub within : t ≤ q

in_window_by : (w q t p : ℕ) (b c : Bool) → eqb p t ≡ b → w < p → p ≤ q → (c ≡ true → IsIn w q t)
    → (b || c) ≡ true → IsIn w q t
in_window_by w q t p true c same low high go is = let at : p ≡ t = grind (arith, nat_tests) in
    rw (← at) (record { above = low; within = high })
in_window_by w q t p false c same low high go is = go is

pub inside_is : (w q : ℕ) (xs : List ℕ) (t : ℕ) → IsInside w q xs → contains xs t ≡ true
    → IsIn w q t
inside_is w q [] t inside is = cc
inside_is w q (p ∷ rest) t inside is =
    in_window_by w q t p (eqb p t) (contains rest t) refl inside.0 inside.1
    (inside_is w q rest t inside.2) is

least_by : (w q t v u : ℕ) (b : Bool) (o : Option ℕ) → (b ≡ true → IsIn w q t)
    → (o ≡ Some u → IsIn w q t) → cond b (Some v) o ≡ Some u → IsIn w q t
least_by w q t v u true o here go is = here refl
least_by w q t v u false o here go is = go is

pub least_inside : (w q : ℕ) (v : ℕ) (xs : List (List ℕ)) (t u : ℕ)
    → AllByRecursion (IsInside w q) xs → least_with v xs t ≡ Some u → IsIn w q t
least_inside w q v [] t u inside is = cc
least_inside w q v (x ∷ xs) t u inside is =
    least_by w q t v u (contains x t) (least_with (v + 1) xs t) (inside_is w q x t inside.0)
    (least_inside w q (v + 1) xs t u inside.1) is

below_by : (v u count : ℕ) (b : Bool) (o : Option ℕ) → v < count → (o ≡ Some u → u < count)
    → cond b (Some v) o ≡ Some u → u < count
below_by v u count true o lt go is = (let same : v ≡ u = cc in rw (← same) lt)
below_by v u count false o lt go is = go is

pub least_below : (v : ℕ) (xs : List (List ℕ)) (t u count : ℕ) → v + length xs ≡ count
    → least_with v xs t ≡ Some u → u < count
least_below v [] t u count is found = cc
least_below v (x ∷ xs) t u count is found =
    below_by v u count (contains x t) (least_with (v + 1) xs t) (omega arith)
    (least_below (v + 1) xs t u count (omega arith)) found

pub get_inside : (w q : ℕ) (xs : List (List ℕ)) (v : ℕ) → AllByRecursion (IsInside w q) xs
    → IsInside w q (get_or xs v [])
get_inside w q [] v inside = tt
get_inside w q (x ∷ xs) zero inside = inside.0
get_inside w q (x ∷ xs) (suc v) inside = get_inside w q xs v inside.1

pub ended_inside : (w q : ℕ) (terms : List (List ℕ)) (v : Option ℕ) (t : ℕ)
    → AllByRecursion (IsInside w q) terms → ended terms v t ≡ true → IsIn w q t
ended_inside w q terms None t inside is = cc
ended_inside w q terms (Some v) t inside is = inside_is w q (get_or terms v []) t
    (get_inside w q terms v inside) is
