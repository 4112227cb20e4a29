-- Steps that are counted one part after the other.
use Rattle.std.proofs.Common.{◌≡◌, ℕ, ◌+◌, Result, Ok, Err, IfOk, ◌∙◌, ap, ap₂, arith}
use Rattle.rt_base.specs.Counted.{Counted}

sum_more : (a m n : ℕ) → a + m + n ≡ a + (m + n)
sum_more a m n = omega arith

pub steps_joined : (first mid last : Counted) (m n : ℕ) → mid ≡ record {
  count = first.count + m;
  out = first.out;
} →
    last ≡ record { count = mid.count + n; out = mid.out }
    → last ≡ record { count = first.count + (m + n); out = first.out }
steps_joined first mid last m n one two =
    let make : ℕ → ℕ → Counted = λ c o. record { count = c; out = o } in
    two ∙ ap₂ make (ap (λ (s : Counted). s.count + n) one ∙ sum_more first.count m n)
    (ap (λ (s : Counted). s.out) one)

-- what follows of each number follows of an answer
pub if_ok_more : {E : Type 0} (r : Result ℕ E) (P Q : ℕ → Type 0) → ((n : ℕ) → P n → Q n)
    → IfOk r P → IfOk r Q
if_ok_more (Ok n) P Q more is = more n is
if_ok_more (Err e) P Q more is = is
