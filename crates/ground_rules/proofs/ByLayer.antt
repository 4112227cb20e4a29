-- The units of each layer, one unit after the other.
use Rattle.std.proofs.Common.{◌≡◌, ℕ, ◌+◌, ◌-◌, ◌<◌, ◌≤◌, List, [], ◌∷◌, ◌++◌, map, take, length}
use Rattle.std.proofs.Common.{set, get_or, replicate, refl, sym, ap, subst, ◌∙◌, arith}
use Rattle.std.proofs.lemmas.List.{take_more, map-append, length-map, length-take-le}
use Rattle.std.specs.List.{range_with_len, enumerate_from}
use Rattle.ground_types.specs.declared.program.Unit.{Unit}
use Rattle.ground_rules.specs.Grounded.{PlainUnit, plain_unit, unit_layer, units_in_layer}
use Rattle.ground_rules.specs.Origins.{with_key}
use Rattle.ground_rules.proofs.Gathered.{HasOneMore, key_has_one_more, mapped_has_one_more}
use Rattle.ground_rules.proofs.Gathered.{one_more_at, one_more_before, all_empty}

pub enumerate_from-last : {A : Type 0} (n m : ℕ) (xs : List A) (x : A) → n + length xs ≡ m
    → enumerate_from n (xs ++ x ∷ []) ≡ enumerate_from n xs ++ (m, x) ∷ []
enumerate_from-last n m [] x at = ap (λ k. (k, x) ∷ []) (omega arith)
enumerate_from-last n m (y ∷ xs) x at = ap (λ ys. (n, y) ∷ ys) (enumerate_from-last (n + 1) m xs x
    (omega arith))

module _ (of_name : List ℕ) where
  layer_has_one_more : (units : List PlainUnit) (unit : PlainUnit)
      → HasOneMore (units_in_layer of_name units) (units_in_layer of_name (units ++ unit ∷ []))
      (unit_layer of_name unit) (length units)
  layer_has_one_more units unit =
      subst (λ us. HasOneMore (units_in_layer of_name units) (λ layer.
      map (λ u. u.0) (with_key (λ u. unit_layer of_name u.1) us layer)) (unit_layer of_name unit)
      (length units))
      (sym (enumerate_from-last 0 (length units) units unit (omega arith)))
      (mapped_has_one_more (λ u. u.0) (with_key (λ u. unit_layer of_name u.1)
      (enumerate_from 0 units))
      (with_key (λ u. unit_layer of_name u.1) (enumerate_from 0 units ++ (length units, unit)
      ∷ [])) (unit_layer of_name unit) (length units, unit)
      (key_has_one_more (λ u. unit_layer of_name u.1) (enumerate_from 0 units) (
        length units,
        unit,
      )))

  pub no_units : (count : ℕ) → replicate count [] ≡ map (units_in_layer of_name [])
      (range_with_len 1 count)
  no_units count = sym (all_empty (units_in_layer of_name []) (λ k. refl) 1 count)

  module _ (units : List Unit) (i : ℕ) (unit : Unit) (within : i < length units) (at : unit
      ≡ get_or units i unit) where
    next : map plain_unit (take (i + 1) units) ≡ map plain_unit (take i units) ++ plain_unit unit
        ∷ []
    next = ap (map plain_unit) (take_more units i unit within ∙ ap (λ u. take i units ++ u ∷ [])
        (sym at)) ∙ map-append plain_unit (take i units) (unit ∷ [])

    len : length (map plain_unit (take i units)) ≡ i
    len = length-map (take i units) plain_unit ∙ length-take-le i units (omega arith)

    one_more : HasOneMore (units_in_layer of_name (map plain_unit (take i units)))
        (units_in_layer of_name (map plain_unit (take (i + 1) units)))
        (unit_layer of_name (plain_unit unit)) i
    one_more =
        subst (λ us. HasOneMore (units_in_layer of_name (map plain_unit (take i units)))
        (units_in_layer of_name us) (unit_layer of_name (plain_unit unit)) i) (sym next)
        (subst (λ k. HasOneMore (units_in_layer of_name (map plain_unit (take i units)))
        (units_in_layer of_name (map plain_unit (take i units) ++ plain_unit unit ∷ []))
        (unit_layer of_name (plain_unit unit)) k) len
        (layer_has_one_more (map plain_unit (take i units)) (plain_unit unit)))

    module _ (before : List (List ℕ)) (count : ℕ) (are : before
        ≡ map (units_in_layer of_name (map plain_unit (take i units))) (range_with_len 1 count))
      where
        pub put_in_layer : (layer : ℕ) → layer ≡ unit_layer of_name (plain_unit unit) → 0 < layer
            → set before (layer - 1) (get_or before (layer - 1) [] ++ i ∷ [])
            ≡ map (units_in_layer of_name (map plain_unit (take (i + 1) units)))
            (range_with_len 1 count)
        put_in_layer layer is some =
            ap (λ ls. set ls (layer - 1) (get_or ls (layer - 1) [] ++ i ∷ [])) are
            ∙ sym (one_more_at _ _ 1 count (layer - 1) (unit_layer of_name (plain_unit unit)) i
            (omega arith) one_more)

        pub in_no_layer : (layer : ℕ) → layer ≡ unit_layer of_name (plain_unit unit) → layer ≤ 0
            → before ≡ map (units_in_layer of_name (map plain_unit (take (i + 1) units)))
            (range_with_len 1 count)
        in_no_layer layer is none = are ∙ sym (one_more_before _ _ 1 count
            (unit_layer of_name (plain_unit unit)) i (omega arith) one_more)
