-- The part of rising points that lies between two.
use Rattle.std.proofs.Common.{◌≡◌, ℕ, ◌+◌, ◌-◌, ◌<◌, ◌≤◌, Bool, true, false, cond, ◌&&◌, leb, ltb}
use Rattle.std.proofs.Common.{List, [], ◌∷◌, ◌++◌, length, get_or, take, drop, filter, All, refl}
use Rattle.std.proofs.Common.{sym, ◌∙◌, ap, ap₂, arith, append-nil, length-take, length-drop}
use Rattle.std.proofs.Common.{get_or-take, get_or-drop, take-append-drop}
use Rattle.std.specs.List.Sorted.{IsNonDecreasingBy, IsPartitionPoint}
use Rattle.std.proofs.lemmas.Bool.Decides.{nat_tests}
use Rattle.std.proofs.lemmas.List.{get_or_default}
use Rattle.std.proofs.lemmas.List.Elements.{filter-append, All-head, All-tail}
use Rattle.span_algebra.specs.Normal.{IsRising, IsRisingFrom}
use Rattle.span_algebra.proofs.Having.{points_rise}

pub rising_lower : (floor less : ℕ) (xs : List ℕ) → IsRisingFrom floor xs → less ≤ floor
    → IsRisingFrom less xs
rising_lower floor less [] rising le = tt
rising_lower floor less (p ∷ rest) rising le = (omega (arith, rising.0), rising.1)

filtered_by : (floor p : ℕ) (rest : List ℕ) (b : Bool) → floor ≤ p → IsRisingFrom (p + 1) rest
    → IsRisingFrom floor (cond b (p ∷ rest) rest)
filtered_by floor p rest true le rising = (le, rising)
filtered_by floor p rest false le rising = rising_lower (p + 1) floor rest rising (omega arith)

-- those of rising points that pass a test rise
pub rising_filter : (test : ℕ → Bool) (floor : ℕ) (xs : List ℕ) → IsRisingFrom floor xs
    → IsRisingFrom floor (filter test xs)
rising_filter test floor [] rising = tt
rising_filter test floor (p ∷ rest) rising = filtered_by floor p (filter test rest) (test p)
    rising.0 (rising_filter test (p + 1) rest rising.1)

-- rising points do not fall
pub rising_by : (xs : List ℕ) → IsRising xs → IsNonDecreasingBy (λ (y : ℕ). y) xs
rising_by xs rising i j d le lt =
    let more : get_or xs i 0 ≤ get_or xs j 0 = points_rise 0 xs rising i j le lt in
    omega (arith, get_or_default xs i d 0 (omega arith), get_or_default xs j d 0 lt)

filter_none : (test : ℕ → Bool) (xs : List ℕ) → All (λ x. test x ≡ false) xs → filter test xs ≡ []
filter_none test [] none = refl
filter_none test (x ∷ xs) none =
    rw (All-head (λ y. test y ≡ false) x xs none)
    (filter_none test xs (All-tail (λ y. test y ≡ false) x xs none))

filter_all : (test : ℕ → Bool) (xs : List ℕ) → All (λ x. test x ≡ true) xs → filter test xs ≡ xs
filter_all test [] all = refl
filter_all test (x ∷ xs) all =
    rw (All-head (λ y. test y ≡ true) x xs all) (ap (λ (l : List ℕ). x ∷ l)
    (filter_all test xs (All-tail (λ y. test y ≡ true) x xs all)))

-- what passes where nothing passes before a place
filter_from : (test : ℕ → Bool) (xs : List ℕ) (k : ℕ) → All (λ x. test x ≡ false) (take k xs)
    → filter test xs ≡ filter test (drop k xs)
filter_from test xs k none =
    ap (filter test) (sym (take-append-drop k xs)) ∙ filter-append test (take k xs) (drop k xs)
    ∙ ap (λ (l : List ℕ). l ++ filter test (drop k xs)) (filter_none test (take k xs) none)

-- what passes where all pass up to a place, and nothing from there on
filter_up_to : (test : ℕ → Bool) (xs : List ℕ) (k : ℕ) → All (λ x. test x ≡ true) (take k xs)
    → All (λ x. test x ≡ false) (drop k xs) →
    filter test xs ≡ take k xs
filter_up_to test xs k all none =
    ap (filter test) (sym (take-append-drop k xs)) ∙ filter-append test (take k xs) (drop k xs)
    ∙ ap₂ (λ (l m : List ℕ). l ++ m) (filter_all test (take k xs) all)
    (filter_none test (drop k xs) none) ∙ append-nil (take k xs)

too_low : (t w q : ℕ) → leb t w ≡ true → (ltb w t && leb t q) ≡ false
too_low t w q is = grind (arith, nat_tests)

too_high : (t w q : ℕ) → leb t q ≡ false → (ltb w t && leb t q) ≡ false
too_high t w q is = grind (arith, nat_tests)

between : (t w q : ℕ) → leb t w ≡ false → leb t q ≡ true → (ltb w t && leb t q) ≡ true
between t w q low high = grind (arith, nat_tests)

-- between the first place above w and the first place above q there are the points above w, up to
-- and with q
pub part_is : (xs : List ℕ) (w q begin end : ℕ) → begin ≤ length xs → end ≤ length (drop begin xs) →
    IsPartitionPoint (λ t. leb t w ≡ true) (λ t. leb t w ≡ false) xs begin →
    IsPartitionPoint (λ t. leb t q ≡ true) (λ t. leb t q ≡ false) (drop begin xs) end →
    take end (drop begin xs) ≡ filter (λ t. ltb w t && leb t q) xs
part_is xs w q begin end begins ends first second =
    let test : ℕ → Bool = λ t. ltb w t && leb t q in
    let rest : List ℕ = drop begin xs in
    let long : length rest ≡ length xs - begin = length-drop begin xs in
    sym (filter_from test xs begin
    (λ k d within. let low : k < begin = omega (arith, length-take begin xs) in
    ap test (get_or-take begin xs k d low) ∙ too_low (get_or xs k d) w q (first.0 k d (omega arith)
    low))
    ∙ filter_up_to test rest end
    (λ k d within. let low : k < end = omega (arith, length-take end rest) in
    ap test (get_or-take end rest k d low)
    ∙ between (get_or rest k d) w q
    (ap (λ (t : ℕ). leb t w) (get_or-drop begin xs k d) ∙ first.1 (begin + k) d (omega arith)
    (omega (arith, long)))
    (second.0 k d (omega arith) low))
    (λ k d within. ap test (get_or-drop end rest k d)
    ∙ too_high (get_or rest (end + k) d) w q (second.1 (end + k) d (omega arith)
    (omega (arith, length-drop end rest)))))

not_above : (t w : ℕ) → leb t w ≡ true → ltb w t ≡ false
not_above t w is = grind (arith, nat_tests)

is_above : (t w : ℕ) → leb t w ≡ false → ltb w t ≡ true
is_above t w is = grind (arith, nat_tests)

-- from the first place above w on there are the points above w
pub from_there : (xs : List ℕ) (w count : ℕ) → count ≤ length xs →
    IsPartitionPoint (λ t. leb t w ≡ true) (λ t. leb t w ≡ false) xs count →
    drop count xs ≡ filter (λ t. ltb w t) xs
from_there xs w count within parted =
    let test : ℕ → Bool = λ t. ltb w t in
    sym (filter_from test xs count
    (λ k d inside. let low : k < count = omega (arith, length-take count xs) in
    ap test (get_or-take count xs k d low)
    ∙ not_above (get_or xs k d) w (parted.0 k d (omega arith) low))
    ∙ filter_all test (drop count xs)
    (λ k d inside. ap test (get_or-drop count xs k d)
    ∙ is_above (get_or xs (count + k) d) w (parted.1 (count + k) d (omega arith)
    (omega (arith, length-drop count xs)))))

-- the same in lists that are the same
pub from_there_on : (searched within now : List ℕ) (w count : ℕ) → searched ≡ within
    → within ≡ now → count ≤ length searched
    → IsPartitionPoint (λ t. leb t w ≡ true) (λ t. leb t w ≡ false) searched count
    → drop count within ≡ filter (λ t. ltb w t) now
from_there_on searched within now w count same is le parted =
    ap (drop count) (sym same) ∙ from_there searched w count le parted
    ∙ ap (filter (λ t. ltb w t)) (same ∙ is)
