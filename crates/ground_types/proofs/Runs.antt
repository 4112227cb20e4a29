-- The row of a test is the rising list of its maximal runs.
use Rattle.std.proofs.Common.{◌≡◌, ◌⊎◌, inl, inr, ℕ, ◌+◌, ◌-◌, ◌<◌, ◌≤◌, Bool, true, false, ◌&&◌}
use Rattle.std.proofs.Common.{◌||◌, leb, ltb, List, [], ◌∷◌, refl, sym, ◌∙◌, ap, arith, subst}
use Rattle.std.proofs.lemmas.Bool.Decides.{nat_tests}
use Rattle.ground_types.specs.Rows.{row, covers, IsRisingFrom, IsRun, IsSpanOf, IsRow}
use Rattle.ground_types.specs.Rows.{IsRowByPoints}
use Rattle.rt_base.proofs.Numbers.{equal_from_bounds}
use Rattle.ground_types.proofs.Rows.{covers_hit, covers_miss, covers_floor}
use Rattle.ground_types.proofs.Rows.{rising_unique, AreRuns, runs_are}

-- what is known of one of the spans of a rising list
record IsApart (floor : ℕ) (xs : List (ℕ × ℕ)) (a b : ℕ) : Type 0 where
  pub low : floor ≤ a
  pub span : a < b
  pub hit : (t : ℕ) → a < t → t ≤ b → covers xs t ≡ true
  pub before : covers xs a ≡ false
  pub after : covers xs (b + 1) ≡ false

first_apart : (floor : ℕ) (s : ℕ × ℕ) (rest : List (ℕ × ℕ)) → IsRisingFrom floor (s ∷ rest)
    → IsApart floor (s ∷ rest) s.0 s.1
first_apart floor s rest rising = record {
  low = rising.0;
  span = rising.1;
  hit = λ t low high. covers_hit s rest t low high;
  before = covers_floor s.0 (s ∷ rest) s.0 (omega arith, rising.1, rising.2) (omega arith);
  after = covers_miss s rest (s.1 + 1) (inr (omega arith)) ∙ covers_floor (s.1 + 1) rest (s.1 + 1)
      rising.2 (omega arith);
}

later_apart : (floor : ℕ) (s : ℕ × ℕ) (rest : List (ℕ × ℕ)) (a b : ℕ)
    → IsRisingFrom floor (s ∷ rest) → IsApart (s.1 + 1) rest a b → IsApart floor (s ∷ rest) a b
later_apart floor s rest a b rising p = record {
  low = omega (arith, rising.0, rising.1, p.low);
  span = p.span;
  hit = λ t low high. covers_miss s rest t (inr (omega (arith, p.low))) ∙ p.hit t low high;
  before = covers_miss s rest a (inr (omega (arith, p.low))) ∙ p.before;
  after = covers_miss s rest (b + 1) (inr (omega (arith, p.low, p.span))) ∙ p.after;
}

apart : (floor : ℕ) (xs : List (ℕ × ℕ)) (a b : ℕ) → IsRisingFrom floor xs → IsSpanOf xs a b
    → IsApart floor xs a b
apart floor [] a b rising is = absurd is
apart floor (s ∷ rest) a b rising (inl is) =
    subst (λ (m : ℕ). IsApart floor (s ∷ rest) a m) is.1
    (subst (λ (m : ℕ). IsApart floor (s ∷ rest) m s.1) is.0 (first_apart floor s rest rising))
apart floor (s ∷ rest) a b rising (inr is) = later_apart floor s rest a b rising
    (apart (s.1 + 1) rest a b rising.2 is)

-- a covered point lies in one of the spans
record IsFound (xs : List (ℕ × ℕ)) (t : ℕ) : Type 0 where
  pub a : ℕ
  pub b : ℕ
  pub is : IsSpanOf xs a b
  pub above : a < t
  pub within : t ≤ b

found_by : (s : ℕ × ℕ) (rest : List (ℕ × ℕ)) (t : ℕ) (b : Bool) → (ltb s.0 t && leb t s.1) ≡ b
    → (b || covers rest t) ≡ true →
    (covers rest t ≡ true → IsFound rest t) → IsFound (s ∷ rest) t
found_by s rest t true is all go = record {
  a = s.0;
  b = s.1;
  is = inl (refl, refl);
  above = grind (arith, nat_tests);
  within = grind (arith, nat_tests);
}
found_by s rest t false is all go = let f : IsFound rest t = go all in record {
  a = f.a;
  b = f.b;
  is = inr f.is;
  above = f.above;
  within = f.within;
}

found : (xs : List (ℕ × ℕ)) (t : ℕ) → covers xs t ≡ true → IsFound xs t
found [] t is = cc
found (s ∷ rest) t is = found_by s rest t (ltb s.0 t && leb t s.1) refl is (found rest t)

inside_true : (w q t : ℕ) (b : Bool) → true ≡ (ltb w t && leb t (q + 1) && b) → (w < t)
    × (t ≤ q + 1) × (b ≡ true)
inside_true w q t true is = (grind (arith, nat_tests), grind (arith, nat_tests), refl)
inside_true w q t false is = absurd (grind (arith, nat_tests))

inside_false : (w q t : ℕ) (b : Bool) → false ≡ (ltb w t && leb t (q + 1) && b) → w < t → t ≤ q + 1
    → b ≡ false
inside_false w q t true is low high = absurd (grind (arith, nat_tests))
inside_false w q t false is low high = refl

low_or_at : (w a : ℕ) → w ≤ a → (a ≡ w) ⊎ (w < a)
low_or_at w a le = grind (arith, nat_tests)

starts_by : (test : ℕ → Bool) (w q a : ℕ) → false ≡ (ltb w a && leb a (q + 1) && test a)
    → a ≤ q + 1 → (a ≡ w) ⊎ (w < a) → (a ≡ w) ⊎ (test a ≡ false)
starts_by test w q a is high (inl at) = inl at
starts_by test w q a is high (inr low) = inr (inside_false w q a (test a) is low high)

ends_by : (test : ℕ → Bool) (w q b : ℕ) → false ≡ (ltb w (b + 1) && leb (b + 1) (q + 1)
    && test (b + 1)) → w < b + 1 → (q + 1 ≡ b) ⊎ (b < q + 1) → (b ≡ q + 1) ⊎ (test (b + 1) ≡ false)
ends_by test w q b is low (inl at) = inl (sym at)
ends_by test w q b is low (inr high) = inr (inside_false w q (b + 1) (test (b + 1)) is low
    (omega arith))

span_is_run : (test : ℕ → Bool) (w q : ℕ) (xs : List (ℕ × ℕ)) (a b : ℕ) → IsRowByPoints test w q xs
    → IsSpanOf xs a b → IsRun test w q a b
span_is_run test w q xs a b row is =
    let p : IsApart w xs a b = apart w xs a b row.rising is in
    let last : (w < b) × (b ≤ q + 1) × (test b ≡ true) = inside_true w q b (test b)
    (sym (p.hit b p.span (omega arith)) ∙ row.each b) in
    record {
      within = (p.low, p.span, last.1);
      holds = λ t low high. (inside_true w q t (test t) (sym (p.hit t low high) ∙ row.each t)).2;
      starts = starts_by test w q a (sym p.before ∙ row.each a) (omega (arith, p.span, last.1))
          (low_or_at w a p.low);
      ends = ends_by test w q b (sym p.after ∙ row.each (b + 1)) (omega (arith, last.0))
          (low_or_at b (q + 1) last.1);
    }

true_inside : (w q t : ℕ) (b : Bool) → w < t → t ≤ q + 1 → b ≡ true
    → (ltb w t && leb t (q + 1) && b) ≡ true
true_inside w q t true low high is = grind (arith, nat_tests)
true_inside w q t false low high is = cc

no_start : (w a : ℕ) (b : Bool) → (a ≡ w) ⊎ (b ≡ false) → w < a → b ≡ true → ⊥
no_start w a b (inl at) low is = omega arith
no_start w a b (inr off) low is = let both : true ≡ false = sym is ∙ off in cc

no_end : (top b : ℕ) (c : Bool) → (b ≡ top) ⊎ (c ≡ false) → b < top → c ≡ true → ⊥
no_end top b c (inl at) low is = omega arith
no_end top b c (inr off) low is = let both : true ≡ false = sym is ∙ off in cc

run_is_span : (test : ℕ → Bool) (w q : ℕ) (xs : List (ℕ × ℕ)) (a b : ℕ) → IsRowByPoints test w q xs
    → IsRun test w q a b → IsSpanOf xs a b
run_is_span test w q xs a b row run =
    let covered : (t : ℕ) → a < t → t ≤ b → covers xs t ≡ true =
    λ (t : ℕ) (low : a < t) (high : t ≤ b). row.each t ∙ true_inside w q t (test t)
    (omega (arith, run.within.0)) (omega (arith, run.within.2)) (run.holds t low high) in
    let f : IsFound xs (a + 1) = found xs (a + 1) (covered (a + 1) (omega arith)
    (omega (arith, run.within.1))) in
    let p : IsApart w xs f.a f.b = apart w xs f.a f.b row.rising f.is in
    let low : f.a ≡ a = equal_from_bounds f.a a
    (λ lt. no_start w a (test a) run.starts (omega (arith, p.low))
    (inside_true w q a (test a) (sym (p.hit a lt (omega (arith, f.within))) ∙ row.each a)).2)
    (λ gt. omega (arith, f.above)) in
    let high : f.b ≡ b = equal_from_bounds f.b b
    (λ lt. let both : true ≡ false = sym (covered (f.b + 1) (omega (arith, f.within))
    (omega arith)) ∙ p.after in cc)
    (λ gt.
    let more : (w < b + 1) × (b + 1 ≤ q + 1) × (test (b + 1) ≡ true) =
    inside_true w q (b + 1) (test (b + 1)) (sym (p.hit (b + 1) (omega (arith, run.within.1, low))
    (omega arith)) ∙ row.each (b + 1)) in
    no_end (q + 1) b (test (b + 1)) run.ends (omega (arith, more.1)) more.2) in
    subst (λ (m : ℕ). IsSpanOf xs a m) high (subst (λ (m : ℕ). IsSpanOf xs m f.b) low f.is)

pub row_by_points : (test : ℕ → Bool) (w q : ℕ) → w ≤ q → IsRowByPoints test w q (row test w q)
row_by_points test w q le =
    let runs : AreRuns test w (q + 1 - w) (row test w q) = runs_are test w (q + 1 - w) in
    let top : w + (q + 1 - w) ≡ q + 1 = omega arith in
    record {
      rising = runs.rising;
      each = λ t. runs.each t ∙ ap (λ (m : ℕ). ltb w t && leb t m
          && test t) top;
    }

pub row_is : (test : ℕ → Bool) (w q : ℕ) → w ≤ q → IsRow test w q (row test w q)
row_is test w q le =
    let points : IsRowByPoints test w q (row test w q) = row_by_points test w q le in
    record {
      rising = points.rising;
      each = λ a b. (
        span_is_run test w q (row test w q) a b points,
        run_is_span test w q
            (row test w q) a b points,
      );
    }

equal_from_both : (a b : Bool) → (a ≡ true → b ≡ true) → (b ≡ true → a ≡ true) → a ≡ b
equal_from_both true b left right = sym (left refl)
equal_from_both false true left right = right refl
equal_from_both false false left right = refl

-- what one row of a test covers, another covers too
covered_by_both : (test : ℕ → Bool) (w q : ℕ) (one two : List (ℕ × ℕ)) (t : ℕ) → IsRow test w q one
    → IsRow test w q two →
    covers one t ≡ true → covers two t ≡ true
covered_by_both test w q one two t left right is =
    let f : IsFound one t = found one t is in
    let other : IsSpanOf two f.a f.b = (right.each f.a f.b).1 ((left.each f.a f.b).0 f.is) in
    (apart w two f.a f.b right.rising other).hit t f.above f.within

pub rows_unique : (test : ℕ → Bool) (w q : ℕ) (one two : List (ℕ × ℕ)) → IsRow test w q one
    → IsRow test w q two → one ≡ two
rows_unique test w q one two left right =
    rising_unique w one two left.rising right.rising
    (λ t. equal_from_both (covers one t) (covers two t) (covered_by_both test w q one two t left
    right) (covered_by_both test w q two one t right left))
