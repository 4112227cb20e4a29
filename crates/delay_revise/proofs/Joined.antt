-- Lists of points by value: which points each value has.
use Rattle.std.proofs.Common.{◌≡◌, ◌⊎◌, inl, inr, ℕ, zero, suc, ◌+◌, ◌-◌, ◌<◌, ◌≤◌, Bool, true}
use Rattle.std.proofs.Common.{false, cond, ◌&&◌, ◌||◌, ltb, leb, eqb, List, [], ◌∷◌, ◌++◌, map}
use Rattle.std.proofs.Common.{filter, length, take, set, get_or, refl, sym, ◌∙◌, ap, ap₂, arith}
use Rattle.std.proofs.Common.{subst}
use Rattle.std.specs.List.{list_any, list_all, range_with_len, AllByRecursion}
use Rattle.std.proofs.Math.Bool.{or-false, or-true, and-true, and-false}
use Rattle.std.proofs.lemmas.Bool.{false≢true}
use Rattle.std.proofs.lemmas.Bool.Decides.{nat_tests}
use Rattle.std.proofs.lemmas.List.{take_more}
use Rattle.std.proofs.lemmas.List.Folds.{list_any-append}
use Rattle.std.proofs.lemmas.List.Sums.{AllPass-from_list_all}
use Rattle.ground_types.specs.Truth.{Table, body_holds}
use Rattle.ground_types.specs.Members.{contains}
use Rattle.ground_types.specs.Inertia.{values_with}
use Rattle.ground_types.specs.Recognition.{values_of}
use Rattle.ground_types.specs.Rows.{points}
use Rattle.ground_types.proofs.Members.{contains_hit}
use Rattle.ground_types.proofs.Points.{points_are}
use Rattle.ground_types.proofs.Rows.{le_or_above}
use Rattle.ground_types.specs.declared.program.Rule.{Rule}
use Rattle.simple_fluent.specs.Rows.{IsInside}
use Rattle.query_ask.proofs.TrueAnswers.{inside_is}

-- some list has the point
abbrev pub some_has : List (List ℕ) → ℕ → Bool
some_has lists t = list_any (λ points. contains points t) lists

-- ---- lists that are joined

-- each list has the points that its parts have
abbrev pub AreJoined : List (List ℕ) → List (List (List ℕ)) → Type 0
AreJoined [] [] = Unit {0}
AreJoined [] (parts ∷ rest) = ⊥
AreJoined (list ∷ lists) [] = ⊥
AreJoined (list ∷ lists) (parts ∷ rest) = ((t : ℕ) → contains list t ≡ some_has parts t)
    × AreJoined lists rest

joined_push : (lists : List (List ℕ)) (parts : List (List (List ℕ))) (list : List ℕ)
    (more : List (List ℕ)) → AreJoined lists parts →
    ((t : ℕ) → contains list t ≡ some_has more t) → AreJoined (lists ++ list ∷ [])
    (parts ++ more ∷ [])
joined_push [] [] list more are same = (same, tt)
joined_push [] (p ∷ rest) list more are same = absurd are
joined_push (l ∷ lists) [] list more are same = absurd are
joined_push (l ∷ lists) (p ∷ rest) list more are same =
    (are.0, joined_push lists rest list more are.1 same)

-- one more list
pub joined_more : (lists after : List (List ℕ)) (parts : List (List (List ℕ))) (i : ℕ)
    (list : List ℕ) (more : List (List ℕ)) → i < length parts →
    more ≡ get_or parts i more → AreJoined lists (take i parts)
    → ((t : ℕ) → contains list t ≡ some_has more t) → after ≡ lists ++ list ∷ [] →
    AreJoined after (take (i + 1) parts)
joined_more lists after parts i list more within is are same new =
    subst (λ (xs : List (List ℕ)). AreJoined xs (take (i + 1) parts)) (sym new)
    (subst (λ (ps : List (List (List ℕ))). AreJoined (lists ++ list ∷ []) ps)
    (sym (take_more parts i more within ∙ ap (λ (m : List (List ℕ)). take i parts ++ m ∷ [])
    (sym is)))
    (joined_push lists (take i parts) list more are same))

pub joined_length : (lists : List (List ℕ)) (parts : List (List (List ℕ))) → AreJoined lists parts
    → length lists ≡ length parts
joined_length [] [] are = refl
joined_length [] (p ∷ rest) are = absurd are
joined_length (l ∷ lists) [] are = absurd are
joined_length (l ∷ lists) (p ∷ rest) are = ap suc (joined_length lists rest are.1)

pub joined_at : (lists : List (List ℕ)) (parts : List (List (List ℕ))) (v t : ℕ)
    → AreJoined lists parts →
    contains (get_or lists v []) t ≡ some_has (get_or parts v []) t
joined_at [] [] v t are = refl
joined_at [] (p ∷ rest) v t are = absurd are
joined_at (l ∷ lists) [] v t are = absurd are
joined_at (l ∷ lists) (p ∷ rest) zero t are = are.0 t
joined_at (l ∷ lists) (p ∷ rest) (suc v) t are = joined_at lists rest v t are.1

-- ---- lists that grow

other_number : (v : ℕ) (c p : Bool) → c ≡ (c || (eqb 0 (suc v) && p))
other_number v true p = refl
other_number v false p = grind (arith, nat_tests)

number_other : (k : ℕ) (c p : Bool) → c ≡ (c || (eqb (suc k) 0 && p))
number_other k true p = refl
number_other k false p = grind (arith, nat_tests)

next_number : (k v : ℕ) (c p : Bool) → (c || (eqb k v && p)) ≡ (c || (eqb (suc k) (suc v) && p))
next_number k v true p = refl
next_number k v false true = grind (arith, nat_tests)
next_number k v false false = grind (arith, nat_tests)

-- points more for one number
grown : (lists : List (List (List ℕ))) (k : ℕ) (more : List (List ℕ)) (points : List ℕ) (v t : ℕ)
    → k < length lists →
    some_has more t ≡ (some_has (get_or lists k []) t || contains points t) →
    some_has (get_or (set lists k more) v []) t ≡ (some_has (get_or lists v []) t
    || (eqb k v && contains points t))
grown [] k more points v t within grows = absurd (omega (arith, within))
grown (l ∷ rest) zero more points zero t within grows = grows
grown (l ∷ rest) zero more points (suc v) t within grows =
    other_number v (some_has (get_or rest v []) t) (contains points t)
grown (l ∷ rest) (suc k) more points zero t within grows = number_other k (some_has l t)
    (contains points t)
grown (l ∷ rest) (suc k) more points (suc v) t within grows =
    grown rest k more points v t (omega (arith, within)) grows
    ∙ next_number k v (some_has (get_or rest v []) t) (contains points t)

-- a rule's value is one of so many
pub value_below : (count : ℕ) (rules : List Rule) (i : ℕ) (rule : Rule)
    → list_all (λ rule. ltb rule.value count) rules ≡ true → i < length rules →
    rule ≡ get_or rules i rule → rule.value < count
value_below count rules i rule all within is =
    let at : ltb rule.value count ≡ true =
    ap (λ (r : Rule). ltb r.value count) is ∙ AllPass-from_list_all (λ rule. ltb rule.value count)
    rules all i rule within in
    grind (arith, nat_tests)

-- a rule has this value and the point
abbrev pub rule_has : (Rule → List ℕ) → ℕ → ℕ → Rule → Bool
rule_has found v t rule = eqb rule.value v && contains (found rule) t

-- some rule passes, of one rule more
any_more : (test : Rule → Bool) (rules : List Rule) (i : ℕ) (rule : Rule) → i < length rules
    → rule ≡ get_or rules i rule →
    list_any test (take (i + 1) rules) ≡ (list_any test (take i rules) || test rule)
any_more test rules i rule within is =
    ap (list_any test) (take_more rules i rule within ∙ ap (λ (r : Rule). take i rules ++ r ∷ [])
    (sym is))
    ∙ list_any-append test (take i rules) (rule ∷ [])
    ∙ ap (λ (b : Bool). list_any test (take i rules) || b) (or-false (test rule))

-- one more rule, of one value
pub grown_more : (found : Rule → List ℕ) (rules : List Rule) (i : ℕ) (rule : Rule)
    (before after : List (List (List ℕ))) (was more : List (List ℕ)) (v t : ℕ) →
    i < length rules → rule ≡ get_or rules i rule → rule.value < length before
    → was ≡ get_or before rule.value [] →
    some_has more t ≡ (some_has was t || contains (found rule) t)
    → after ≡ set before rule.value more →
    some_has (get_or before v []) t ≡ list_any (rule_has found v t) (take i rules) →
    some_has (get_or after v []) t ≡ list_any (rule_has found v t) (take (i + 1) rules)
grown_more found rules i rule before after was more v t within is below here grows new old =
    let step : some_has more t ≡ (some_has (get_or before rule.value []) t || contains (found rule)
    t) =
    grows ∙ ap (λ (l : List (List ℕ)). some_has l t || contains (found rule) t) here in
    ap (λ (lists : List (List (List ℕ))). some_has (get_or lists v []) t) new
    ∙ grown before rule.value more (found rule) v t below step
    ∙ ap (λ (b : Bool). b || rule_has found v t rule) old
    ∙ sym (any_more (rule_has found v t) rules i rule within is)

-- one more rule, of all
pub gathered_more : (found : Rule → List ℕ) (rules : List Rule) (i : ℕ) (rule : Rule)
    (before after : List (List ℕ)) (t : ℕ) →
    i < length rules → rule ≡ get_or rules i rule → some_has after t
    ≡ (some_has before t || contains (found rule) t) →
    some_has before t ≡ list_any (λ rule. contains (found rule) t) (take i rules) →
    some_has after t ≡ list_any (λ rule. contains (found rule) t) (take (i + 1) rules)
gathered_more found rules i rule before after t within is grows old =
    grows ∙ ap (λ (b : Bool). b || contains (found rule) t) old
    ∙ sym (any_more (λ rule. contains (found rule) t) rules i rule within is)

-- ---- what the lists come to

number_low : (a v : ℕ) (points : List ℕ) (rest : List (List ℕ)) (t : ℕ) (b : Bool) → v < a
    → contains (values_with (a + 1) rest t) v ≡ false →
    contains (cond b (a ∷ values_with (a + 1) rest t) (values_with (a + 1) rest t)) v ≡ false
number_low a v points rest t true low none = let apart : eqb a v ≡ false = grind (arith, nat_tests)
    in rw apart none
number_low a v points rest t false low none = none

-- values are counted from one on
values_low : (a : ℕ) (lists : List (List ℕ)) (t v : ℕ) → v < a → contains (values_with a lists t) v
    ≡ false
values_low a [] t v low = refl
values_low a (points ∷ rest) t v low = number_low a v points rest t (contains points t) low
    (values_low (a + 1) rest t v (omega arith))

first_number : (a n : ℕ) (rest : List (List ℕ)) (t : ℕ) (b : Bool) → n ≡ a →
    contains (cond b (a ∷ values_with (a + 1) rest t) (values_with (a + 1) rest t)) n ≡ b
first_number a n rest t true is = contains_hit a (values_with (a + 1) rest t) n (sym is)
first_number a n rest t false is = values_low (a + 1) rest t n (omega arith)

later_number : (a n : ℕ) (rest : List (List ℕ)) (t : ℕ) (b : Bool) → a < n →
    contains (cond b (a ∷ values_with (a + 1) rest t) (values_with (a + 1) rest t)) n
    ≡ contains (values_with (a + 1) rest t) n
later_number a n rest t true low = let apart : eqb a n ≡ false = grind (arith, nat_tests) in
    rw apart refl
later_number a n rest t false low = refl

values_at : (a : ℕ) (lists : List (List ℕ)) (t v n : ℕ) → n ≡ a + v
    → contains (values_with a lists t) n ≡ contains (get_or lists v []) t
values_at a [] t v n is = refl
values_at a (points ∷ rest) t zero n is = first_number a n rest t (contains points t)
    (omega (arith, is))
values_at a (points ∷ rest) t (suc v) n is =
    later_number a n rest t (contains points t) (omega (arith, is)) ∙ values_at (a + 1) rest t v n
    (omega (arith, is))

more_values : (value v : ℕ) (b : Bool) (xs ys : List Rule) (rule : Rule) (c : Bool)
    → rule.value ≡ value → contains (map (λ rule. rule.value) xs) v ≡ c →
    contains (map (λ rule. rule.value) (cond b (rule ∷ xs) xs)) v ≡ ((eqb value v && b) || c)
more_values value v true xs ys rule c is rest = ap₂ (λ (a b : Bool). a || b)
    (ap (λ (n : ℕ). eqb n v) is ∙ sym (and-true (eqb value v))) rest
more_values value v false xs ys rule c is rest = rest ∙ ap (λ (b : Bool). b || c)
    (sym (and-false (eqb value v)))

-- the values of the rules whose body is true
values_are : (table : Table) (rules : List Rule) (w q t v : ℕ) → w < t → t ≤ q →
    list_any (rule_has (λ rule. points (body_holds table rule) w q) v t) rules
    ≡ contains (values_of table rules t) v
values_are table [] w q t v low high = refl
values_are table (rule ∷ rest) w q t v low high =
    let here : contains (points (body_holds table rule) w q) t ≡ body_holds table rule t =
    (points_are (body_holds table rule) w q (omega arith)).each t
    ∙ inside_is w q t (body_holds table rule t) low high in
    ap (λ (b : Bool). (eqb rule.value v && b)
    || list_any (rule_has (λ rule. points (body_holds table rule) w q) v t) rest) here
    ∙ sym (more_values rule.value v (body_holds table rule t)
    (filter (λ rule. body_holds table rule t) rest) [] rule _ refl
    (sym (values_are table rest w q t v low high)))

pub values_found : (table : Table) (rules : List Rule) (found : List (List ℕ))
    (parts : List (List (List ℕ))) (w q v t : ℕ) → w < t → t ≤ q →
    contains (get_or found v []) t ≡ some_has (get_or parts v []) t →
    some_has (get_or parts v []) t ≡ list_any
    (rule_has (λ rule. points (body_holds table rule) w q) v t) rules →
    contains (values_with 0 found t) v ≡ contains (values_of table rules t) v
values_found table rules found parts w q v t low high joined gathered =
    values_at 0 found t v v (omega arith) ∙ joined ∙ gathered ∙ values_are table rules w q t v low
    high

-- ---- where they lie

record IsWithin (w q t : ℕ) : Type 0 where
  pub above : w < t
  pub up_to : t ≤ q

within_by : (w q t : ℕ) (b : Bool) → (ltb w t && leb t q && b) ≡ true → IsWithin w q t
within_by w q t true is = record {
  above = grind (arith, nat_tests);
  up_to = grind (arith, nat_tests);
}
within_by w q t false is = record {
  above = grind (arith, nat_tests);
  up_to = grind (arith, nat_tests);
}

point_within : (test : ℕ → Bool) (w q t : ℕ) → (w ≤ q) ⊎ (q < w) → contains (points test w q) t
    ≡ true → IsWithin w q t
point_within test w q t (inl le) has = within_by w q t (test t)
    (sym ((points_are test w q le).each t) ∙ has)
point_within test w q t (inr lt) has =
    let none : q - w ≡ 0 = omega arith in
    absurd (false≢true (sym (ap (λ (n : ℕ). contains (filter test (range_with_len (w + 1) n)) t)
    none) ∙ has))

one_of : {P : Type 0} (a b c : Bool) → ((a && b) || c) ≡ true → (b ≡ true → P) → (c ≡ true → P) → P
one_of true true c is left right = left refl
one_of true false c is left right = right is
one_of false b c is left right = right is

rules_within : (table : Table) (rules : List Rule) (w q v t : ℕ)
    → list_any (rule_has (λ rule. points (body_holds table rule) w q) v t) rules ≡ true →
    IsWithin w q t
rules_within table [] w q v t has = absurd (false≢true has)
rules_within table (rule ∷ rest) w q v t has =
    one_of (eqb rule.value v) (contains (points (body_holds table rule) w q) t)
    (list_any (rule_has (λ rule. points (body_holds table rule) w q) v t) rest) has
    (λ here. point_within (body_holds table rule) w q t (le_or_above w q) here) (λ later.
    rules_within table rest w q v t later)

list_inside : (w q : ℕ) (xs : List ℕ) → ((t : ℕ) → contains xs t ≡ true → IsWithin w q t)
    → IsInside w q xs
list_inside w q [] within = tt
list_inside w q (x ∷ rest) within =
    let first : IsWithin w q x = within x (contains_hit x rest x refl) in (
      first.above,
      first.up_to,
      list_inside w q rest (λ t has.
          within t (rw has (or-true (eqb x t)))),
    )

lists_inside : (w q : ℕ) (lists : List (List ℕ)) → ((v t : ℕ) → contains (get_or lists v []) t
    ≡ true → IsWithin w q t) → AllByRecursion (IsInside w q) lists
lists_inside w q [] within = tt
lists_inside w q (xs ∷ rest) within = (
  list_inside w q xs (within 0),
  lists_inside w q rest
      (λ v. within (suc v)),
)

pub found_inside : (table : Table) (rules : List Rule) (found : List (List ℕ))
    (parts : List (List (List ℕ))) (w q : ℕ) →
    ((v t : ℕ) → contains (get_or found v []) t ≡ some_has (get_or parts v []) t) →
    ((v t : ℕ) → some_has (get_or parts v []) t
    ≡ list_any (rule_has (λ rule. points (body_holds table rule) w q) v t) rules) →
    AllByRecursion (IsInside w q) found
found_inside table rules found parts w q joined gathered =
    lists_inside w q found (λ v t has. rules_within table rules w q v t
    (sym (joined v t ∙ gathered v t) ∙ has))
