-- Layers in which each unit stands once, behind the units that it names, are in order.
use Rattle.std.proofs.Common.{◌≡◌, inl, inr, ℕ, zero, suc, ◌+◌, ◌<◌, ◌≤◌, nat_lt, Bool, true, false}
use Rattle.std.proofs.Common.{true≢false, not, ◌&&◌, List, [], ◌∷◌, ◌++◌, flat_map, length}
use Rattle.std.proofs.Common.{slice_get, Some, refl, sym, ap, subst, ◌∙◌, arith}
use Rattle.std.proofs.lemmas.Bool.{lt-ltb, false_from_ne_true, cases_lt, and_from}
use Rattle.std.proofs.lemmas.Option.{slice_get_within, slice_get_cases, same_Some}
use Rattle.std.specs.List.{list_all}
use Rattle.ground_types.specs.Members.{contains}
use Rattle.ground_types.specs.Meaning.{units_of_kind, is_layer, are_layers, IsLayered}
use Rattle.ground_types.specs.Recognition.{kind_of}
use Rattle.ground_types.specs.declared.program.Program.{Program}
use Rattle.ground_types.proofs.Members.{contains_hit, contains_left, contains_right}
use Rattle.ground_types.proofs.Members.{contains_either}
use Rattle.ground_rules.proofs.Sorted.{AreOnce, contains_later, of_key, each_of_key, is_of_key}
use Rattle.ground_rules.proofs.Sorted.{once_of_key, by_keys, among_keys}

-- a test that each number of a list passes
all_pass : (test : ℕ → Bool) (ns : List ℕ) → ((n : ℕ) → contains ns n ≡ true → test n ≡ true)
    → list_all test ns ≡ true
all_pass test [] each = refl
all_pass test (n ∷ ns) each =
    and_from (test n) (list_all test ns) (each n (contains_hit n ns n refl))
    (all_pass test ns (λ m is. each m (contains_later n ns m is)))

module _ (program : Program) where
  -- a unit that may stand in the next layer behind others
  pub record MayFollow (below : List ℕ) (unit : ℕ) : Type 0 where
    pub within : unit < length program.units
    pub new : contains below unit ≡ false
    pub named : (other : ℕ) → contains (units_of_kind (kind_of program unit)) other ≡ true
        → contains below other ≡ true

  layer_in_order : (below layer : List ℕ) → AreOnce layer
      → ((unit : ℕ) → contains layer unit ≡ true → MayFollow below unit)
      → is_layer program below layer ≡ true
  layer_in_order below [] once each = refl
  layer_in_order below (unit ∷ rest) once each =
      let first = each unit (contains_hit unit rest unit refl) in
      let later = layer_in_order below rest once.1 (λ other is.
      each other (contains_later unit rest other is)) in
      five (nat_lt unit (length program.units)) (contains below unit) (contains rest unit)
      (list_all (contains below) (units_of_kind (kind_of program unit)))
      (is_layer program below rest)
      (lt-ltb unit (length program.units) first.within) first.new once.0 (all_pass (contains below)
      (units_of_kind (kind_of program unit)) first.named) later
    where
      five : (a b c d e : Bool) → a ≡ true → b ≡ false → c ≡ false → d ≡ true → e ≡ true
          → (a && not b && not c && d && e) ≡ true
      five true false false true true p q r s t = refl
      five true false false true false p q r s t = t
      five true false false false e p q r s t = s
      five true false true d e p q r s t = absurd (true≢false r)
      five true true c d e p q r s t = absurd (true≢false q)
      five false b c d e p q r s t = p

  module _ {X : Type 0} (key : X → ℕ) (xs : List X) (many : length program.units ≡ length xs)
      (lower : (unit : ℕ) (x : X) → slice_get xs unit ≡ Some x → (other : ℕ)
      → contains (units_of_kind (kind_of program unit)) other ≡ true
      → (y : X) × (slice_get xs other ≡ Some y) × (key y < key x)) where
    -- the numbers of the items whose key is less
    record AreBelow (first k : ℕ) (below : List ℕ) : Type 0 where
      pub each : (unit : ℕ) (x : X) → slice_get xs unit ≡ Some x → first ≤ key x → key x < k
          → contains below unit ≡ true
      pub only : (unit : ℕ) → contains below unit ≡ true → (x : X) × (slice_get xs unit ≡ Some x)
          × (key x < k)

    item_at : (k unit : ℕ) → contains (of_key key 0 k xs) unit ≡ true → (x : X)
        × (slice_get xs unit ≡ Some x) × (key x ≡ k)
    item_at k unit is =
        let found = each_of_key key 0 k xs unit is in
        let place : found.index ≡ unit = omega (arith, found.place) in
        (found.item, subst (λ n. slice_get xs n ≡ Some found.item) place found.at, found.key_is)

    module _ (first : ℕ) (low : (unit : ℕ) (x : X) → slice_get xs unit ≡ Some x → first ≤ key x)
      where
        may_follow : (k : ℕ) (below : List ℕ) → AreBelow first k below → (unit : ℕ)
            → contains (of_key key 0 k xs) unit ≡ true → MayFollow below unit
        may_follow k below are unit is =
            let here = item_at k unit is in
            record {
              within = omega (arith, many, slice_get_within xs unit here.0 here.1);
              new = false_from_ne_true (contains below unit) (λ old.
                  let before = are.only unit old in
                  let same : before.0 ≡ here.0 = same_Some before.0 here.0 (sym before.1 ∙ here.1)
                  in
                  let keys : key before.0 ≡ key here.0 = ap key same in
                  omega (arith, before.2, here.2, keys));
              named = λ other among.
                  let down = lower unit here.0 here.1 other among in
                  are.each other down.0 down.1 (low other down.0 down.1)
                  (omega (arith, down.2, here.2));
            }

        one_more : (k : ℕ) (below : List ℕ) → AreBelow first k below
            → AreBelow first (k + 1) (below ++ of_key key 0 k xs)
        one_more k below are = record {
          each = λ unit x at from under. elim (cases_lt (key x) k) [
            | inl less ↦ contains_left below (of_key key 0 k xs) unit (are.each unit x at from less)
            | inr more ↦ contains_right below (of_key key 0 k xs) unit
                (let none : 0 + unit ≡ unit = omega arith in
                subst (λ n. contains (of_key key 0 k xs) n ≡ true) none (is_of_key key 0 k xs unit x
                at (omega (arith, under, more))))
          ];
          only = λ unit is. elim (contains_either below (of_key key 0 k xs) unit is) [
            | inl old ↦ (let before = are.only unit old in
                (before.0, before.1, omega (arith, before.2)))
            | inr new ↦ (let here = item_at k unit new in (here.0, here.1, omega (arith, here.2)))
          ];
        }

        in_order : (k count : ℕ) (below : List ℕ) → AreBelow first k below
            → are_layers program below (by_keys key xs k count) ≡ true
        in_order k zero below are = refl
        in_order k (suc count) below are =
            and_from (is_layer program below (of_key key 0 k xs))
            (are_layers program (below ++ of_key key 0 k xs) (by_keys key xs (k + 1) count))
            (layer_in_order below (of_key key 0 k xs) (once_of_key key 0 k xs)
            (may_follow k below are))
            (in_order (k + 1) count (below ++ of_key key 0 k xs) (one_more k below are))

        module _ (greatest : ℕ) (high : (unit : ℕ) (x : X) → slice_get xs unit ≡ Some x
            → key x < first + greatest) (layers : program.layers ≡ by_keys key xs first greatest)
          where
            pub keys_in_order : IsLayered program
            keys_in_order = record {
              order = ap (are_layers program []) layers ∙ in_order first greatest [] (record {
                each = λ unit x at from under. absurd (omega (arith, from, under));
                only = λ unit is. absurd (true≢false (sym is));
              });
              all = λ unit within. ap (λ ls. contains (flat_map (λ layer. layer) ls) unit) layers
                  ∙ elim (slice_get_cases xs unit).1 [
                    | inl x ↦ among_keys key xs first greatest unit x.0 x.2 (low unit x.0 x.2)
                        (high unit x.0 x.2)
                    | inr out ↦ absurd (omega (arith, out.0, many, within))
                  ];
            }
