-- What is known of the rows of all values as far as a sweep has come.
use Rattle.std.proofs.Common.{◌≡◌, ◌≢◌, ℕ, zero, suc, ◌+◌, ◌<◌, ◌≤◌, min, length, get_or, set}
use Rattle.std.proofs.Common.{replicate, map, Bool, true, false, cond, ◌||◌, eqb, List, [], ◌∷◌}
use Rattle.std.proofs.Common.{◌++◌, Option, Some, None, refl, sym, ◌∙◌, ap, arith, subst}
use Rattle.std.proofs.Common.{append-nil, get_or-set_other, get_or-set_same}
use Rattle.std.specs.List.{AllByRecursion, range_with_len}
use Rattle.std.proofs.Math.ListN.{length-set, length-replicate}
use Rattle.std.proofs.lemmas.Bool.Decides.{nat_tests}
use Rattle.std.proofs.lemmas.List.{map-append}
use Rattle.std.specs.Prelude.{is_some}
use Rattle.span_algebra.specs.declared.spans.Span.{Span}
use Rattle.span_algebra.specs.Normal.{IsRising, IsRisingFrom}
use Rattle.ground_types.specs.Truth.{is_value}
use Rattle.ground_types.specs.Members.{contains}
use Rattle.ground_types.specs.Inertia.{has_value}
use Rattle.ground_types.specs.Rows.{row}
use Rattle.ground_types.proofs.Rows.{row_from_points}
use Rattle.simple_fluent.specs.declared.firsts.First.{First}
use Rattle.span_algebra.specs.Normal.{pair, pairs}
use Rattle.simple_fluent.specs.Rows.{rows_of, IsInside, IsValueBelow}
use Rattle.simple_fluent.specs.Firsts.{least_with, RisesFrom, value_in, past_first}
use Rattle.span_algebra.specs.Walk.{begun_after, closed_at}
use Rattle.simple_fluent.specs.Sweep.{started, after_point, next_of, is_same, terms_from}
use Rattle.simple_fluent.specs.Sweep.{terms_after, since_after, rows_after, CanPass}
use Rattle.simple_fluent.proofs.Merging.{IsPast, past, starts_at, value_low}
use Rattle.simple_fluent.proofs.Inertia.{value, ended, after_event, value_first, value_more, steady}
use Rattle.simple_fluent.proofs.Inertia.{IsIn, least_inside, least_below, ended_inside}
use Rattle.simple_fluent.proofs.Fronts.{IsAtFront, at_front, begins_at, contains_low}
use Rattle.simple_fluent.proofs.Fronts.{terms_from_same, terms_from_rise}
use Rattle.simple_fluent.proofs.Swept.{IsSwept, swept_start, swept_further, swept_past}
use Rattle.simple_fluent.proofs.Swept.{closed_at_end}
use Rattle.simple_fluent.proofs.Normal.{can_close}

-- since when this value is open
abbrev pub begun_of : Option ℕ → ℕ → ℕ → Option ℕ
begun_of None since v = None
begun_of (Some c) since v = cond (eqb c v) (Some since) None

opened : (at : ℕ) (b : Bool) → cond b (Some at) None ≡ begun_after None b at
opened at true = refl
opened at false = refl

next_by : (n c v since at : ℕ) (b d e : Bool) → eqb n v ≡ b → eqb c v ≡ d → eqb n c ≡ e →
    cond b (Some (cond e since at)) None ≡ begun_after (cond d (Some since) None) b at
next_by n c v since at true true true p q r = refl
next_by n c v since at true true false p q r = absurd (grind (arith, nat_tests))
next_by n c v since at true false true p q r = absurd (grind (arith, nat_tests))
next_by n c v since at true false false p q r = refl
next_by n c v since at false d e p q r = refl

begun_next : (current next : Option ℕ) (since at v : ℕ) →
    begun_of next (since_after current since next at) v ≡ begun_after (begun_of current since v)
    (is_value next v) at
begun_next None None since at v = refl
begun_next None (Some n) since at v = opened at (eqb n v)
begun_next (Some c) None since at v = refl
begun_next (Some c) (Some n) since at v = next_by n c v since at (eqb n v) (eqb c v) (eqb n c) refl
    refl refl

none_closed : (xs : List Span) (b : Bool) (at : ℕ) → xs ≡ xs ++ closed_at None b at
none_closed xs true at = sym (append-nil xs)
none_closed xs false at = sym (append-nil xs)

kept_cond : (rows : List (List Span)) (c v : ℕ) (x : List Span) (b : Bool) → v ≢ c
    → get_or (cond b rows (set rows c x)) v [] ≡ get_or rows v []
kept_cond rows c v x true other = refl
kept_cond rows c v x false other = get_or-set_other rows c v x [] other

closed_cond : (rows : List (List Span)) (c since at : ℕ) (b : Bool) → c < length rows →
    get_or (cond b rows (set rows c (get_or rows c [] ++ (record { after = since; until = at })
    ∷ []))) c [] ≡ get_or rows c [] ++ closed_at (Some since) b at
closed_cond rows c since at true lt = sym (append-nil (get_or rows c []))
closed_cond rows c since at false lt = get_or-set_same rows c _ [] lt

row_by : (rows : List (List Span)) (c since : ℕ) (next : Option ℕ) (at v : ℕ) (b : Bool)
    → eqb c v ≡ b → c < length rows →
    get_or (rows_after rows (Some c) since next at) v [] ≡ get_or rows v [] ++ closed_at
    (cond b (Some since) None) (is_value next v) at
row_by rows c since next at v true is lt =
    let same : c ≡ v = grind (arith, nat_tests) in
    subst (λ (u : ℕ). get_or (rows_after rows (Some c) since next at) u [] ≡ get_or rows u []
    ++ closed_at (Some since) (is_value next u) at) same
    (closed_cond rows c since at (is_value next c) lt)
row_by rows c since next at v false is lt =
    let other : v ≢ c = λ (e : v ≡ c). (let no : eqb c v ≡ true = grind (arith, nat_tests) in cc) in
    kept_cond rows c v _ (is_value next c) other ∙ none_closed (get_or rows v []) (is_value next v)
    at

row_next : (rows : List (List Span)) (current next : Option ℕ) (since at v : ℕ)
    → IsValueBelow (length rows) current →
    get_or (rows_after rows current since next at) v [] ≡ get_or rows v [] ++ closed_at
    (begun_of current since v) (is_value next v) at
row_next rows None next since at v below = none_closed (get_or rows v []) (is_value next v) at
row_next rows (Some c) next since at v below = row_by rows c since next at v (eqb c v) refl below

count_cond : (rows : List (List Span)) (c : ℕ) (x : List Span) (b : Bool)
    → length (cond b rows (set rows c x)) ≡ length rows
count_cond rows c x true = refl
count_cond rows c x false = simp length-set

count_next : (rows : List (List Span)) (current next : Option ℕ) (since at : ℕ)
    → length (rows_after rows current since next at) ≡ length rows
count_next rows None next since at = refl
count_next rows (Some c) next since at = count_cond rows c _ (is_value next c)

-- all that a sweep knows
pub record IsSweeping (opening : Option ℕ) (inits terms : List (List ℕ)) (w q : ℕ)
    (firsts_left : List First) (terms_left : List ℕ)
    (rows : List (List Span)) (current : Option ℕ) (since top : ℕ) : Type 0 where
  pub low : w < top
  pub high : top ≤ q + 1
  pub firsts_up : RisesFrom top firsts_left
  pub firsts_same : (t : ℕ) → top ≤ t → least_with 0 inits t ≡ value_in firsts_left t
  pub terms_up : IsRisingFrom top terms_left
  pub terms_same : (t : ℕ) → top ≤ t → ended terms current t ≡ contains terms_left t
  pub now : value opening inits terms w top ≡ current
  pub ranged : IsValueBelow (length rows) current
  pub count : length rows ≡ length inits
  pub each : (v : ℕ) → v < length inits → IsSwept (has_value opening inits terms w v) w top
      (pairs (get_or rows v [])) (begun_of current since v)

-- the next point at which something happens
pub record IsNext (firsts : List First) (terms : List ℕ) (top at : ℕ) : Type 0 where
  pub above : top ≤ at
  pub firsts_from : RisesFrom at firsts
  pub terms_from : IsRisingFrom at terms
  pub found : (starts_at firsts at || begins_at terms at) ≡ true

next_is : (firsts : List First) (terms : List ℕ) (top at : ℕ) → RisesFrom top firsts
    → IsRisingFrom top terms → next_of firsts terms ≡ Some at →
    IsNext firsts terms top at
next_is [] [] top at i t is = cc
next_is [] (y ∷ ys) top at i t is =
    let same : y ≡ at = cc in
    record {
      above = omega (arith, t.0);
      firsts_from = tt;
      terms_from = (omega arith, t.1);
      found = grind (arith, nat_tests);
    }
next_is (x ∷ xs) [] top at i t is =
    let same : x.at ≡ at = cc in
    record {
      above = omega (arith, i.0);
      firsts_from = (omega arith, i.1);
      terms_from = tt;
      found = grind (arith, nat_tests);
    }
next_is (x ∷ xs) (y ∷ ys) top at i t is =
    let same : min x.at y ≡ at = cc in
    record {
      above = omega (arith, i.0, t.0);
      firsts_from = (omega arith, i.1);
      terms_from = (omega arith, t.1);
      found = grind (arith, nat_tests);
    }

none_next : (firsts : List First) (terms : List ℕ) → next_of firsts terms ≡ None → (firsts ≡ [])
    × (terms ≡ [])
none_next [] [] is = (refl, refl)
none_next [] (y ∷ ys) is = cc
none_next (x ∷ xs) [] is = cc
none_next (x ∷ xs) (y ∷ ys) is = cc

-- as far as the point nothing happens
quiet_value : (opening : Option ℕ) (inits terms : List (List ℕ)) (w q : ℕ)
    (firsts_left : List First) (terms_left : List ℕ)
    (rows : List (List Span)) (current : Option ℕ) (since top at : ℕ) →
    IsSweeping opening inits terms w q firsts_left terms_left rows current since top
    → RisesFrom at firsts_left → IsRisingFrom at terms_left →
    (t : ℕ) → top ≤ t → t ≤ at → value opening inits terms w t ≡ current
quiet_value opening inits terms w q firsts_left terms_left rows current since top at s f e t low
    high =
    steady opening inits terms w top t current s.low low s.now
    (λ u le lt. s.firsts_same u le ∙ value_low at firsts_left u f (omega arith))
    (λ u le lt. s.terms_same u le ∙ contains_low at terms_left u e (omega arith))

quiet_rows : (opening : Option ℕ) (inits terms : List (List ℕ)) (w q : ℕ)
    (firsts_left : List First) (terms_left : List ℕ)
    (rows : List (List Span)) (current : Option ℕ) (since top at : ℕ) →
    IsSweeping opening inits terms w q firsts_left terms_left rows current since top → top ≤ at
    → RisesFrom at firsts_left → IsRisingFrom at terms_left →
    (v : ℕ) → v < length inits → IsSwept (has_value opening inits terms w v) w at
    (pairs (get_or rows v [])) (begun_of current since v)
quiet_rows opening inits terms w q firsts_left terms_left rows current since top at s le f e v lt =
    swept_further (has_value opening inits terms w v) w top at (pairs (get_or rows v []))
    (begun_of current since v) (s.each v lt) le
    (λ t low high. ap (λ (o : Option ℕ). is_value o v)
    (quiet_value opening inits terms w q firsts_left terms_left rows current since top at s f e t
    low high ∙ sym s.now))

starts_cond : (v : ℕ) (b : Bool) → b ≡ is_some (cond b (Some v) None)
starts_cond v true = refl
starts_cond v false = refl

starts_some : (xs : List First) (at : ℕ) → starts_at xs at ≡ is_some (started xs at)
starts_some [] at = refl
starts_some (x ∷ rest) at = starts_cond x.value (eqb x.at at)

event_by : (o : Option ℕ) (b : Bool) (v : Option ℕ) → (is_some o || b) ≡ true → after_event o b v
    ≡ o
event_by (Some i) b v found = refl
event_by None true v found = refl
event_by None false v found = cc

in_by : (w q t : ℕ) (o : Option ℕ) (b : Bool) → (is_some o || b) ≡ true
    → ((u : ℕ) → o ≡ Some u → IsIn w q t) → (b ≡ true → IsIn w q t) → IsIn w q t
in_by w q t (Some u) b found here there = here u refl
in_by w q t None b found here there = there found

same_value : (a b : Option ℕ) → is_same a b ≡ true → a ≡ b
same_value None None is = refl
same_value None (Some b) is = cc
same_value (Some a) None is = cc
same_value (Some a) (Some b) is = let same : a ≡ b = grind (arith, nat_tests) in ap Some same

terms_by : (w q : ℕ) (terms : List (List ℕ)) (left : List ℕ) (current next : Option ℕ) (top at : ℕ)
    (b : Bool) → AllByRecursion (IsInside w q) terms →
    is_same current next ≡ b → IsRisingFrom at left → top ≤ at
    → ((t : ℕ) → top ≤ t → ended terms current t ≡ contains left t) →
    (t : ℕ) → at + 1 ≤ t → ended terms next t
    ≡ contains (cond b (after_point left at) (terms_from terms next at q)) t
terms_by w q terms left current next top at true inside is up le same t low =
    let as_before : current ≡ next = same_value current next is in
    rw (← as_before) (same t (omega arith) ∙ (at_front left at up).same t (omega arith))
terms_by w q terms left current next top at false inside is up le same t low =
    terms_from_same w q terms next at t inside (omega arith)

later_by : (terms : List (List ℕ)) (left : List ℕ) (next : Option ℕ) (at q : ℕ) (b : Bool)
    → IsRisingFrom at left →
    IsRising (cond b (after_point left at) (terms_from terms next at q))
    → IsRisingFrom (at + 1) (cond b (after_point left at) (terms_from terms next at q))
later_by terms left next at q true up rising = (at_front left at up).later
later_by terms left next at q false up rising = terms_from_rise terms next at q rising

below_some : (v : Option ℕ) (count : ℕ) → ((u : ℕ) → v ≡ Some u → u < count) → IsValueBelow count v
below_some None count all = tt
below_some (Some u) count all = all u refl

-- what happens at the next point
pub record IsEvent (opening : Option ℕ) (inits terms : List (List ℕ)) (w q : ℕ)
    (firsts_left : List First) (terms_left : List ℕ)
    (rows : List (List Span)) (current : Option ℕ) (top at : ℕ) : Type 0 where
  pub next : IsNext firsts_left terms_left top at
  pub inside : IsIn w q at
  pub after : value opening inits terms w (at + 1) ≡ started firsts_left at
  pub ranged : IsValueBelow (length inits) (started firsts_left at)

module _ (opening : Option ℕ) (inits terms : List (List ℕ)) (w q : ℕ)
    (firsts_left : List First) (terms_left : List ℕ)
    (rows : List (List Span)) (current : Option ℕ) (since top at : ℕ)
    (in_i : AllByRecursion (IsInside w q) inits) (in_t : AllByRecursion (IsInside w q) terms)
    (s : IsSweeping opening inits terms w q firsts_left terms_left rows current since top)
    (is : next_of firsts_left terms_left ≡ Some at) where
  pub event_is : IsEvent opening inits terms w q firsts_left terms_left rows current top at
  event_is =
      let n : IsNext firsts_left terms_left top at = next_is firsts_left terms_left top at
      s.firsts_up s.terms_up is in
      let p : IsPast firsts_left (past_first firsts_left at) at =
      past firsts_left at n.firsts_from in
      let front : IsAtFront terms_left at (after_point terms_left at) =
      at_front terms_left at n.terms_from in
      let begins : least_with 0 inits at ≡ started firsts_left at = s.firsts_same at n.above
      ∙ p.here in
      let ends : ended terms current at ≡ begins_at terms_left at = s.terms_same at n.above
      ∙ front.has in
      let found : (is_some (started firsts_left at) || begins_at terms_left at) ≡ true =
      rw (← starts_some firsts_left at) n.found in
      let inside : IsIn w q at =
      in_by w q at (started firsts_left at) (begins_at terms_left at) found
      (λ u e. least_inside w q 0 inits at u in_i (begins ∙ e)) (λ e. ended_inside w q terms current
      at in_t (ends ∙ e)) in
      let here : value opening inits terms w at ≡ current =
      quiet_value opening inits terms w q firsts_left terms_left rows current since top at s
      n.firsts_from n.terms_from at n.above (omega arith) in
      record {
        next = n;
        inside = inside;
        after = value_more opening inits terms w at inside.above
            ∙ rw (here, begins, ends) (event_by (started firsts_left at) (begins_at terms_left at)
            current found);
        ranged = below_some (started firsts_left at) _ (λ u e. least_below 0 inits at u
            (length inits) (omega arith) (begins ∙ e));
      }

  pub sweeping_more : IsRising (terms_after terms terms_left current (started firsts_left at) at q)
      → IsSweeping opening inits terms w q (past_first firsts_left at) (terms_after terms terms_left
      current (started firsts_left at) at q)
      (rows_after rows current since (started firsts_left at) at) (started firsts_left at)
      (since_after current since (started firsts_left at) at) (at + 1)
  sweeping_more up =
      let e = event_is in
      let n : IsNext firsts_left terms_left top at = e.next in
      let p : IsPast firsts_left (past_first firsts_left at) at =
      past firsts_left at n.firsts_from in
      record {
        low = omega (arith, e.inside.above);
        high = omega (arith, e.inside.within);
        firsts_up = p.rises;
        firsts_same = λ t le. s.firsts_same t (omega (arith, n.above))
            ∙ p.same t (let no : eqb at t ≡ false = grind (arith, nat_tests) in no);
        terms_up = later_by terms terms_left (started firsts_left at) at q
            (is_same current (started firsts_left at)) n.terms_from up;
        terms_same = terms_by w q terms terms_left current (started firsts_left at) top at
            (is_same current (started firsts_left at)) in_t refl n.terms_from n.above s.terms_same;
        now = e.after;
        ranged = rw (count_next rows current (started firsts_left at) since at, s.count) e.ranged;
        count = count_next rows current (started firsts_left at) since at ∙ s.count;
        each = λ v lt. rw (
          row_next rows current (started firsts_left at) since at v s.ranged,
          begun_next current (started firsts_left at) since at v,
          map-append pair (get_or rows v []) (closed_at (begun_of current since v)
              (is_value (started firsts_left at) v) at),
        )
            (swept_past (has_value opening inits terms w v) w at (pairs (get_or rows v []))
            (begun_of current since v) (is_value (started firsts_left at) v)
            (quiet_rows opening inits terms w q firsts_left terms_left rows current since top at s
            n.above n.firsts_from n.terms_from v lt)
            (ap (λ (o : Option ℕ). is_value o v) e.after));
      }

-- the span of the value before can be closed
begun_same : (c since : ℕ) → begun_of (Some c) since c ≡ Some since
begun_same c since = let yes : eqb c c ≡ true = grind (arith, nat_tests) in rw yes refl

pass_by : (opening : Option ℕ) (inits terms : List (List ℕ)) (w : ℕ) (rows : List (List Span))
    (current next : Option ℕ) (since at : ℕ) →
    IsValueBelow (length rows) current → length rows ≡ length inits →
    ((v : ℕ) → v < length inits → IsSwept (has_value opening inits terms w v) w at
    (pairs (get_or rows v [])) (begun_of current since v)) →
    CanPass rows current since next at
pass_by opening inits terms w rows None next since at ranged count each = tt
pass_by opening inits terms w rows (Some c) next since at ranged count each = (
  ranged,
  λ is. can_close (has_value opening inits terms w c) w at since (get_or rows c [])
      (subst (λ (b : Option ℕ). IsSwept (has_value opening inits terms w c) w at
      (pairs (get_or rows c [])) b) (begun_same c since) (each c (omega (arith, ranged)))),
)

pub can_pass : (opening : Option ℕ) (inits terms : List (List ℕ)) (w q : ℕ)
    (firsts_left : List First) (terms_left : List ℕ)
    (rows : List (List Span)) (current : Option ℕ) (since top at : ℕ) →
    IsSweeping opening inits terms w q firsts_left terms_left rows current since top
    → next_of firsts_left terms_left ≡ Some at →
    (next : Option ℕ) → CanPass rows current since next at
can_pass opening inits terms w q firsts_left terms_left rows current since top at s is next =
    let n : IsNext firsts_left terms_left top at = next_is firsts_left terms_left top at
    s.firsts_up s.terms_up is in
    pass_by opening inits terms w rows current next since at s.ranged s.count
    (quiet_rows opening inits terms w q firsts_left terms_left rows current since top at s n.above
    n.firsts_from n.terms_from)

-- the start
replicate_get : (n v : ℕ) → get_or {A = List Span} (replicate n []) v [] ≡ []
replicate_get zero v = refl
replicate_get (suc n) zero = refl
replicate_get (suc n) (suc v) = replicate_get n v

firsts_start : (w q : ℕ) (inits : List (List ℕ)) (xs : List First)
    → AllByRecursion (IsInside w q) inits → RisesFrom 0 xs →
    ((t : ℕ) → value_in xs t ≡ least_with 0 inits t) → RisesFrom (w + 1) xs
firsts_start w q inits [] inside rises same = tt
firsts_start w q inits (x ∷ rest) inside rises same =
    let yes : eqb x.at x.at ≡ true = grind (arith, nat_tests) in
    let found : least_with 0 inits x.at ≡ Some x.value = sym (same x.at) ∙ rw yes refl in
    let is : IsIn w q x.at = least_inside w q 0 inits x.at x.value inside found in
    (omega (arith, is.above), rises.1)

begun_first : (opening : Option ℕ) (w v : ℕ) → begun_of opening w v ≡ begun_after None
    (is_value opening v) w
begun_first None w v = refl
begun_first (Some c) w v = opened w (eqb c v)

first_row : (opening : Option ℕ) (inits terms : List (List ℕ)) (w v : ℕ) →
    IsSwept (has_value opening inits terms w v) w (w + 1) [] (begun_of opening w v)
first_row opening inits terms w v =
    subst (λ (b : Option ℕ). IsSwept (has_value opening inits terms w v) w (w + 1) [] b)
    (sym (begun_first opening w v))
    (swept_start (has_value opening inits terms w v) w (is_value opening v)
    (ap (λ (o : Option ℕ). is_value o v) (value_first opening inits terms w)))

pub sweeping_start : (opening : Option ℕ) (inits terms : List (List ℕ)) (w q : ℕ)
    (firsts : List First) →
    IsValueBelow (length inits) opening → AllByRecursion (IsInside w q) inits
    → AllByRecursion (IsInside w q) terms →
    IsRising (terms_from terms opening w q) → RisesFrom 0 firsts →
    ((t : ℕ) → value_in firsts t ≡ least_with 0 inits t) → w ≤ q →
    IsSweeping opening inits terms w q firsts (terms_from terms opening w q)
    (replicate (length inits) []) opening w (w + 1)
sweeping_start opening inits terms w q firsts ranged in_i in_t rising rises same le =
    let count : length (replicate (length inits) []) ≡ length inits =
    length-replicate (length inits) [] in
    record {
      low = omega arith;
      high = omega arith;
      firsts_up = firsts_start w q inits firsts in_i rises same;
      firsts_same = λ t low. sym (same t);
      terms_up = terms_from_rise terms opening w q rising;
      terms_same = λ t low. terms_from_same w q terms opening w t in_t (omega arith);
      now = value_first opening inits terms w;
      ranged = rw count ranged;
      count = count;
      each = λ v lt. rw (replicate_get (length inits) v) (first_row opening inits terms w v);
    }

-- the end: the last span is closed past the window
all_rows : (f : ℕ → List (ℕ × ℕ)) (u n : ℕ) (rows : List (List Span)) → length rows ≡ n →
    ((v m : ℕ) → u + v ≡ m → v < n → pairs (get_or rows v []) ≡ f m) → map pairs rows
    ≡ map f (range_with_len u n)
all_rows f u zero [] count each = refl
all_rows f u (suc n) [] count each = absurd (omega arith)
all_rows f u zero (r ∷ rows) count each = absurd (omega arith)
all_rows f u (suc n) (r ∷ rows) count each =
    let here : pairs r ≡ f u = each 0 u (omega arith) (omega arith) in
    let rest : map pairs rows ≡ map f (range_with_len (u + 1) n) =
    all_rows f (u + 1) n rows (omega arith) (λ v m is lt. each (suc v) m (omega arith)
    (omega arith)) in
    cc

end_rows : (opening : Option ℕ) (inits terms : List (List ℕ)) (w q : ℕ) (firsts_left : List First)
    (terms_left : List ℕ)
    (rows : List (List Span)) (current : Option ℕ) (since top : ℕ) →
    IsSweeping opening inits terms w q firsts_left terms_left rows current since top
    → next_of firsts_left terms_left ≡ None →
    (v : ℕ) → v < length inits → IsSwept (has_value opening inits terms w v) w (q + 1)
    (pairs (get_or rows v [])) (begun_of current since v)
end_rows opening inits terms w q firsts_left terms_left rows current since top s is =
    let none : (firsts_left ≡ []) × (terms_left ≡ []) = none_next firsts_left terms_left is in
    quiet_rows opening inits terms w q firsts_left terms_left rows current since top (q + 1) s
    s.high
    (subst (λ (r : List First). RisesFrom (q + 1) r) (sym none.0) tt)
    (subst (λ (r : List ℕ). IsRisingFrom (q + 1) r) (sym none.1) tt)

pub can_end : (opening : Option ℕ) (inits terms : List (List ℕ)) (w q : ℕ)
    (firsts_left : List First) (terms_left : List ℕ)
    (rows : List (List Span)) (current : Option ℕ) (since top : ℕ) →
    IsSweeping opening inits terms w q firsts_left terms_left rows current since top
    → next_of firsts_left terms_left ≡ None →
    CanPass rows current since None (q + 1)
can_end opening inits terms w q firsts_left terms_left rows current since top s is =
    pass_by opening inits terms w rows current None since (q + 1) s.ranged s.count
    (end_rows opening inits terms w q firsts_left terms_left rows current since top s is)

pub sweeping_end : (opening : Option ℕ) (inits terms : List (List ℕ)) (w q : ℕ)
    (firsts_left : List First) (terms_left : List ℕ)
    (rows : List (List Span)) (current : Option ℕ) (since top : ℕ) → w ≤ q →
    IsSweeping opening inits terms w q firsts_left terms_left rows current since top
    → next_of firsts_left terms_left ≡ None →
    (more : List (List Span)) → more ≡ rows_after rows current since None (q + 1) → map pairs more
    ≡ rows_of opening inits terms w q
sweeping_end opening inits terms w q firsts_left terms_left rows current since top le s is more
    same =
    all_rows (λ v. row (has_value opening inits terms w v) w q) 0 (length inits) more
    (rw same (count_next rows current None since (q + 1) ∙ s.count))
    (λ v n at lt. let this : v ≡ n = omega arith in
    rw (same, row_next rows current None since (q + 1) v s.ranged, this)
    (row_from_points (has_value opening inits terms w n) w q _ le
    (rw (map-append pair (get_or rows n []) (closed_at (begun_of current since n) false (q + 1)))
    (closed_at_end (has_value opening inits terms w n) w q (pairs (get_or rows n []))
    (begun_of current since n)
    (end_rows opening inits terms w q firsts_left terms_left rows current since top s is n
    (omega arith))))))
