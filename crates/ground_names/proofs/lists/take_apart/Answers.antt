use Rattle.std.proofs.Common.{◌≡◌, ◌+◌, ◌<◌, ◌/◌, ◌%◌, ◌∷◌, ◌++◌, [], ℕ, List, drop, take, get_or}
use Rattle.std.proofs.Common.{length, subst, sym, ap, ◌∙◌, arith}
use Rattle.std.proofs.Math.Nat.{div-le_self, mod-le}
use Rattle.std.proofs.lemmas.List.{drop_more, take_more_set, drop-set-lt}
use Rattle.std.proofs.lemmas.Grind.{drop_more_same}
use Rattle.ground_names.proofs.Ordered.{IsAt, count_some, next_at}
use Rattle.ground_names.proofs.lists.take_apart.Goals as goal

-- what is left of the sizes is as it was
size_is : (xs ys : List ℕ) (i : ℕ) → i < length xs → length xs ≡ length ys
    → drop i xs ≡ drop i ys → get_or xs i 0 ≡ get_or ys i 0
size_is xs ys i inside same left =
    let within : i < length ys = omega (arith, same) in
    ap (λ l. get_or l 0 0) (sym (drop_more xs i 0 inside) ∙ left ∙ drop_more ys i 0 within)

here : (now sizes : List ℕ) (place i count rest : ℕ) (front : List ℕ) → i < length now
    → length now ≡ length sizes → drop i now ≡ drop i sizes
    → IsAt sizes place (drop i sizes) count rest front
    → IsAt sizes place (get_or now i 0 ∷ drop (i + 1) sizes) count rest front
here now sizes place i count rest front inside same left at =
    subst (λ l. IsAt sizes place l count rest front)
    (drop_more sizes i 0 (omega (arith, same))
    ∙ ap (λ n. n ∷ drop (i + 1) sizes) (sym (size_is now sizes i inside same left))) at

module _ (now sizes : List ℕ) (place i count rest : ℕ) (within : i < length sizes)
    (same : length now ≡ length sizes) (left : drop i now ≡ drop i sizes)
    (at : IsAt sizes place (drop i sizes) count rest (take i now)) where
  inside : i < length now
  inside = omega (arith, within, same)

  some : 0 < count / get_or now i 0
  some = count_some sizes place (get_or now i 0) (drop (i + 1) sizes) count rest (take i now)
      (here now sizes place i count rest (take i now) inside same left at)

  next : IsAt sizes place (drop (i + 1) sizes) (count / get_or now i 0)
      (rest % (count / get_or now i 0)) (take i now ++ (rest / (count / get_or now i 0)) ∷ [])
  next = next_at sizes place (get_or now i 0) (drop (i + 1) sizes) count rest (take i now)
      (here now sizes place i count rest (take i now) inside same left at)

pub nonzero_div-size : goal.nonzero_div-size
nonzero_div-size c =
    some c.loop-size.sizes c.args.sizes.now c.args.place c.loop-size.size-index c.loop-size.count
    c.loop-size.rest c.loop-size-test.true c.loop-size.auto.sizes c.loop-size.invariant.left
    c.loop-size.invariant.at

pub overflow_cast-size : goal.overflow_cast-size
overflow_cast-size c =
    omega (
      arith,
      c.ranges.place.fits,
      c.loop-size.invariant.small,
      div-le_self c.loop-size.rest (c.loop-size.count
          / get_or c.loop-size.sizes c.loop-size.size-index 0),
    )

pub nonzero_rem-rest : goal.nonzero_rem-rest
nonzero_rem-rest c =
    some c.loop-size.sizes c.args.sizes.now c.args.place c.loop-size.size-index c.loop-size.count
    c.loop-size.rest c.loop-size-test.true c.loop-size.auto.sizes c.loop-size.invariant.left
    c.loop-size.invariant.at

pub loop-size-preserved : goal.loop-size-preserved
loop-size-preserved c =
    let i = c.loop-size.size-index in
    let now = c.loop-size.sizes in
    let number = c.loop-size.rest / (c.loop-size.count / get_or now i 0) in
    record {
      left = drop-set-lt (i + 1) now i number (omega arith) ∙ drop_more_same now c.args.sizes.now i
          c.loop-size.invariant.left;
      at = subst (IsAt c.args.sizes.now c.args.place (drop (i + 1) c.args.sizes.now)
          (c.loop-size.count / get_or now i 0)
          (c.loop-size.rest % (c.loop-size.count / get_or now i 0)))
          (sym (take_more_set now i number
          (omega (arith, c.loop-size-test.true, c.loop-size.auto.sizes))))
          (next now c.args.sizes.now c.args.place i c.loop-size.count c.loop-size.rest
          c.loop-size-test.true c.loop-size.auto.sizes c.loop-size.invariant.left
          c.loop-size.invariant.at);
      small = omega (
        arith,
        c.loop-size.invariant.small,
        mod-le c.loop-size.rest (c.loop-size.count / get_or now i 0),
      );
    }
