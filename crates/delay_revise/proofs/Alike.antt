-- What depends on the points of a window alone: rows, lists of points and the values of inertia.
use Rattle.std.proofs.Common.{◌≡◌, ℕ, zero, suc, ◌+◌, ◌-◌, ◌<◌, ◌≤◌, Bool, true, false, cond, ◌||◌}
use Rattle.std.proofs.Common.{eqb, List, [], ◌∷◌, filter, Option, Some, None, refl, sym, ◌∙◌, ap}
use Rattle.std.proofs.Common.{ap₂, arith}
use Rattle.std.specs.Prelude.{min, fold}
use Rattle.std.specs.List.{range_with_len}
use Rattle.std.proofs.Math.Bool.{or-true}
use Rattle.std.proofs.lemmas.Bool.{false≢true}
use Rattle.std.proofs.lemmas.Bool.Decides.{nat_tests}
use Rattle.ground_types.specs.Members.{contains}
use Rattle.ground_types.specs.Rows.{with_point, runs, row, points}
use Rattle.ground_types.specs.Inertia.{kept_unless, next_value, value_after, value_at}
use Rattle.ground_types.proofs.Members.{contains_hit}

-- ---- rows and points

runs_alike : (one two : ℕ → Bool) (w n : ℕ) → ((t : ℕ) → w < t → t ≤ w + n → one t ≡ two t)
    → runs one w n ≡ runs two w n
runs_alike one two w zero same = refl
runs_alike one two w (suc n) same =
    let before : runs one w n ≡ runs two w n = runs_alike one two w n (λ t low high.
    same t low (omega arith)) in
    let here : one (w + suc n) ≡ two (w + suc n) = same (w + suc n) (omega arith) (omega arith) in
    ap₂ (λ (b : Bool) (xs : List (ℕ × ℕ)). cond b (with_point (w + n) xs) xs) here before

-- a row depends on the value points of the window
pub row_alike : (one two : ℕ → Bool) (w q : ℕ) → ((t : ℕ) → w < t → t ≤ q + 1 → one t ≡ two t)
    → row one w q ≡ row two w q
row_alike one two w q same = runs_alike one two w (q + 1 - w) (λ t low high.
    same t low (omega arith))

kept_alike : (one two : ℕ → Bool) (a n : ℕ) → ((t : ℕ) → a ≤ t → t < a + n → one t ≡ two t) →
    filter one (range_with_len a n) ≡ filter two (range_with_len a n)
kept_alike one two a zero same = refl
kept_alike one two a (suc n) same =
    ap₂ (λ (b : Bool) (xs : List ℕ). cond b (a ∷ xs) xs) (same a (omega arith) (omega arith))
    (kept_alike one two (a + 1) n (λ t low high. same t (omega arith) (omega arith)))

-- a list of points depends on the event points of the window
pub points_alike : (one two : ℕ → Bool) (w q : ℕ) → ((t : ℕ) → w < t → t ≤ q → one t ≡ two t)
    → points one w q ≡ points two w q
points_alike one two w q same = kept_alike one two (w + 1) (q - w) (λ t low high.
    same t (omega arith) (omega arith))

-- ---- inertia

-- the value declared first, counting from one that is there
least_low : (v : ℕ) (vs : List ℕ) → fold min v vs ≤ v
least_low v [] = omega arith
least_low v (x ∷ xs) = let below = least_low (min v x) xs in omega arith

least_in_by : (v x m : ℕ) (c : Bool) → (eqb (min v x) m || c) ≡ true → (eqb v m || (eqb x m || c))
    ≡ true
least_in_by v x m true is = grind (arith, nat_tests)
least_in_by v x m false is = grind (arith, nat_tests)

least_in : (v : ℕ) (vs : List ℕ) → contains (v ∷ vs) (fold min v vs) ≡ true
least_in v [] = contains_hit v [] v refl
least_in v (x ∷ xs) =
    least_in_by v x (fold min (min v x) xs) (contains xs (fold min (min v x) xs))
    (least_in (min v x) xs)

least_by : (v x u m : ℕ) (c : Bool) → m ≤ min v x → (c ≡ true → m ≤ u)
    → (eqb v u || (eqb x u || c)) ≡ true → m ≤ u
least_by v x u m true low go is = go refl
least_by v x u m false low go is = grind (arith, nat_tests)

later : (v u : ℕ) (xs : List ℕ) → contains xs u ≡ true → contains (v ∷ xs) u ≡ true
later v u xs is = rw is (or-true (eqb v u))

least_below : (v : ℕ) (vs : List ℕ) (u : ℕ) → contains (v ∷ vs) u ≡ true → fold min v vs ≤ u
least_below v [] u is = least_by v v u v false (omega arith) (λ no. absurd (false≢true no))
    (later v u (v ∷ []) is)
least_below v (x ∷ xs) u is =
    least_by v x u (fold min (min v x) xs) (contains xs u) (least_low (min v x) xs)
    (λ rest. least_below (min v x) xs u (later (min v x) u xs rest)) is

least_alike : (x y : ℕ) (xs ys : List ℕ) → ((v : ℕ) → contains (x ∷ xs) v ≡ contains (y ∷ ys) v)
    → fold min x xs ≡ fold min y ys
least_alike x y xs ys same =
    let low : fold min x xs ≤ fold min y ys = least_below x xs (fold min y ys)
    (same (fold min y ys) ∙ least_in y ys) in
    let high : fold min y ys ≤ fold min x xs = least_below y ys (fold min x xs)
    (sym (same (fold min x xs)) ∙ least_in x xs) in
    omega arith

kept_unless_alike : (o : Option ℕ) (one two : List ℕ) → ((v : ℕ) → contains one v ≡ contains two v)
    → kept_unless o one ≡ kept_unless o two
kept_unless_alike None one two same = refl
kept_unless_alike (Some v) one two same = ap (λ (b : Bool). cond b None (Some v)) (same v)

-- the next value depends on which values are initiated and terminated, not on how often or in which
-- order
next_alike : (o : Option ℕ) (in_one in_two out_one out_two : List ℕ)
    → ((v : ℕ) → contains in_one v ≡ contains in_two v) →
    ((v : ℕ) → contains out_one v ≡ contains out_two v) → next_value o in_one out_one
    ≡ next_value o in_two out_two
next_alike o [] [] out_one out_two ins outs = kept_unless_alike o out_one out_two outs
next_alike o [] (y ∷ ys) out_one out_two ins outs =
    absurd (false≢true (ins y ∙ contains_hit y ys y refl))
next_alike o (x ∷ xs) [] out_one out_two ins outs =
    absurd (false≢true (sym (ins x) ∙ contains_hit x xs x refl))
next_alike o (x ∷ xs) (y ∷ ys) out_one out_two ins outs =
    ap (λ (v : ℕ). Some v) (least_alike x y xs ys ins)

after_alike : (opening : Option ℕ) (in_one in_two out_one out_two : ℕ → List ℕ) (w n : ℕ) →
    ((v t : ℕ) → w < t → t ≤ w + n → contains (in_one t) v ≡ contains (in_two t) v) →
    ((v t : ℕ) → w < t → t ≤ w + n → contains (out_one t) v ≡ contains (out_two t) v) →
    value_after opening in_one out_one w n ≡ value_after opening in_two out_two w n
after_alike opening in_one in_two out_one out_two w zero ins outs = refl
after_alike opening in_one in_two out_one out_two w (suc n) ins outs =
    let before : value_after opening in_one out_one w n ≡ value_after opening in_two out_two w n =
    after_alike opening in_one in_two out_one out_two w n
    (λ v t low high. ins v t low (omega arith)) (λ v t low high. outs v t low (omega arith)) in
    ap (λ (o : Option ℕ). next_value o (in_one (w + suc n)) (out_one (w + suc n))) before
    ∙ next_alike (value_after opening in_two out_two w n) (in_one (w + suc n)) (in_two (w + suc n))
    (out_one (w + suc n)) (out_two (w + suc n))
    (λ v. ins v (w + suc n) (omega arith) (omega arith)) (λ v. outs v (w + suc n) (omega arith)
    (omega arith))

-- the value at a value point of the window depends on which values are initiated and terminated at
-- its event points
pub value_alike : (opening : Option ℕ) (in_one in_two out_one out_two : ℕ → List ℕ) (w q t : ℕ)
    → w < t → t ≤ q + 1 →
    ((v s : ℕ) → w < s → s ≤ q → contains (in_one s) v ≡ contains (in_two s) v) →
    ((v s : ℕ) → w < s → s ≤ q → contains (out_one s) v ≡ contains (out_two s) v) →
    value_at opening in_one out_one w t ≡ value_at opening in_two out_two w t
value_alike opening in_one in_two out_one out_two w q t above up ins outs =
    after_alike opening in_one in_two out_one out_two w (t - (w + 1))
    (λ v s low high. ins v s low (omega arith)) (λ v s low high. outs v s low (omega arith))
