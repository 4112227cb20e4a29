-- Numbers that stop at the greatest u64: sums and products may stop at each step.
use Rattle.std.proofs.Common.{◌≡◌, ℕ, zero, suc, ◌+◌, ◌-◌, ◌*◌, ◌^◌, ◌<◌, ◌≤◌, min, Bool, true}
use Rattle.std.proofs.Common.{false, ltb, refl, sym, ◌∙◌, ap, arith}
use Rattle.std.proofs.Math.Nat.{min-eq_left, min-eq_right, min-le_left, le-min, mul-zero}
use Rattle.std.proofs.Math.Nat.{le-mul_of_pos_right}
use Rattle.std.proofs.lemmas.Bool.{ltb-true, ltb-false, lt-ltb, le-ltb}
use Rattle.ground_names.specs.Counted.{capped}

module _ (m : ℕ) where
  min_mul_over : (a b : ℕ) → m ≤ a → min (m * b) m ≡ min (a * b) m
  min_mul_over a zero over =
      let one : m * 0 ≡ 0 = mul-zero m in
      let two : a * 0 ≡ 0 = mul-zero a in
      ap (λ n. min n m) (one ∙ sym two)
  min_mul_over a (suc b) over =
      let one : m ≤ m * suc b = le-mul_of_pos_right m (omega arith) in
      let two : a ≤ a * suc b = le-mul_of_pos_right a (omega arith) in
      min-eq_right one ∙ sym (min-eq_right (omega arith))

  min_mul_by : (over : Bool) (a b : ℕ) → ltb m a ≡ over → min (min a m * b) m ≡ min (a * b) m
  min_mul_by true a b e =
      let over : m < a = ltb-true m a e in
      let at : min a m ≡ m = min-eq_right (omega arith) in
      ap (λ n. min (n * b) m) at ∙ min_mul_over a b (omega arith)
  min_mul_by false a b e =
      let at : min a m ≡ a = min-eq_left (ltb-false m a e) in
      ap (λ n. min (n * b) m) at

  min_add_by : (over : Bool) (a b : ℕ) → ltb m a ≡ over → min (min a m + b) m ≡ min (a + b) m
  min_add_by true a b e =
      let over : m < a = ltb-true m a e in
      let at : min a m ≡ m = min-eq_right (omega arith) in
      let one : min (m + b) m ≡ m = min-eq_right (omega arith) in
      let two : min (a + b) m ≡ m = min-eq_right (omega arith) in
      ap (λ n. min (n + b) m) at ∙ one ∙ sym two
  min_add_by false a b e =
      let at : min a m ≡ a = min-eq_left (ltb-false m a e) in
      ap (λ n. min (n + b) m) at

abbrev greatest : ℕ
greatest = 2 ^ 64 - 1

pub capped_mul : (a b : ℕ) → capped (capped a * b) ≡ capped (a * b)
capped_mul a b = min_mul_by greatest (ltb greatest a) a b refl

pub capped_add : (a b : ℕ) → capped (capped a + b) ≡ capped (a + b)
capped_add a b = min_add_by greatest (ltb greatest a) a b refl

add_swap : (a b : ℕ) → a + b ≡ b + a
add_swap a b = omega arith

mul_swap : (a b : ℕ) → a * b ≡ b * a
mul_swap a b = grind arith

-- both parts of a sum may stop
pub capped_add_both : (a b : ℕ) → capped (capped a + capped b) ≡ capped (a + b)
capped_add_both a b =
    capped_add a (capped b) ∙ ap capped (add_swap a (capped b)) ∙ capped_add b a
    ∙ ap capped (add_swap b a)

pub capped_mul_right : (a b : ℕ) → capped (a * capped b) ≡ capped (a * b)
capped_mul_right a b = ap capped (mul_swap a (capped b)) ∙ capped_mul b a ∙ ap capped (mul_swap b a)

-- a number that fits stays
pub capped_small : (n : ℕ) → n < 2 ^ 64 → capped n ≡ n
capped_small n small = min-eq_left (omega (arith, small))

-- a limit is exceeded where it is after stopping
pub capped_over : (over : Bool) (most n : ℕ) → most < 2 ^ 64 - 1 → ltb most n ≡ over
    → ltb most (capped n) ≡ over
capped_over true most n small e =
    let over : most < n = ltb-true most n e in
    lt-ltb most (capped n) (le-min (omega (arith, over)) (omega (arith, small)))
capped_over false most n small e =
    let under : n ≤ most = ltb-false most n e in
    le-ltb most (capped n) (omega (arith, under, min-le_left n greatest))
