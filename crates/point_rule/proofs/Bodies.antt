-- The points of a body are those of its first condition at which it is true.
use Rattle.std.proofs.Common.{◌≡◌, ℕ, ◌+◌, ◌-◌, ◌<◌, ◌≤◌, Bool, true, false, ◌&&◌, filter, All}
use Rattle.std.proofs.Common.{refl, ◌∙◌, arith}
use Rattle.std.specs.List.{range_with_len, list_all}
use Rattle.std.proofs.lemmas.List.Elements.{All-filter}
use Rattle.std.proofs.lemmas.List.FromFn.{length-range_with_len, get_or-range_with_len}
use Rattle.ground_types.specs.Truth.{Table, happens, condition_holds, body_holds}
use Rattle.ground_types.specs.Rows.{points}
use Rattle.ground_types.specs.declared.program.Rule.{Rule}
use Rattle.point_rule.proofs.Inside.{filter_twice, filter_same}

range_below : (top q a n : ℕ) → q < top → n ≤ q + 1 - a → All (λ t. t < top) (range_with_len a n)
range_below top q a n lt le k d within =
    omega (
      arith,
      length-range_with_len a n,
      get_or-range_with_len a n k d
          (omega (arith, length-range_with_len a n)),
    )

-- no point lies above the window
pub points_below : (test : ℕ → Bool) (w q top : ℕ) → q < top → All (λ t. t < top) (points test w q)
points_below test w q top lt =
    All-filter test (λ t. t < top) (range_with_len (w + 1) (q - w)) (range_below top q (w + 1)
    (q - w) lt (omega arith))

and_again : (a b : Bool) → (a && (a && b)) ≡ (a && b)
and_again true b = refl
and_again false b = refl

pub body_points : (table : Table) (rule : Rule) (w q : ℕ) →
    filter (body_holds table rule) (points (happens table rule.trigger) w q)
    ≡ points (body_holds table rule) w q
body_points table rule w q =
    filter_twice (happens table rule.trigger) (body_holds table rule)
    (range_with_len (w + 1) (q - w))
    ∙ filter_same (λ t. happens table rule.trigger t && body_holds table rule t)
    (body_holds table rule) (range_with_len (w + 1) (q - w))
    (λ t. and_again (happens table rule.trigger t) (list_all (λ cond. condition_holds table cond t)
    rule.conds))

-- those of the first condition that are open are the touched points
pub open_points : (table : Table) (is_open : ℕ → Bool) (rule : Rule) (w q : ℕ) →
    filter is_open (points (happens table rule.trigger) w q)
    ≡ points (λ t. happens table rule.trigger t && is_open t) w q
open_points table is_open rule w q = filter_twice (happens table rule.trigger) is_open
    (range_with_len (w + 1) (q - w))
