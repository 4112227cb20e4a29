-- The numbers of units are below their count.
use Rattle.std.proofs.Common.{◌≡◌, ℕ, ◌+◌, ◌≤◌, Bool, true, false, ◌||◌, ◌&&◌, nat_lt, List, []}
use Rattle.std.proofs.Common.{◌∷◌, length, refl, arith, if◌then◌else◌}
use Rattle.std.proofs.lemmas.Bool.{lt-ltb, and_from}
use Rattle.std.proofs.lemmas.List.Sums.{sum_by-cons}
use Rattle.std.specs.List.{list_all}
use Rattle.ground_types.specs.Sound.{is_input, arguments_of}
use Rattle.ground_types.specs.declared.program.Domain.{Domain}
use Rattle.ground_types.specs.declared.program.Name.{Name}
use Rattle.ground_names.specs.Numbers.{numbered}
use Rattle.ground_rules.specs.Limits.{unit_count}
use Rattle.ground_rules.specs.Origins.{has_units_below}

module _ (domains : List Domain) (most : ℕ) where
  -- each unit of a numbered name has a number below their count
  pub numbered_below : (event unit : ℕ) (names : List Name) → unit + unit_count domains names
      ≤ most → list_all (has_units_below domains most) (numbered domains event unit names) ≡ true
  numbered_below event unit [] few = refl
  numbered_below event unit (name ∷ names) few =
      by (is_input name.kind) (sum_by-cons (λ n. if is_input n.kind then 0
      else length (arguments_of domains n)) name names) (λ e u h. numbered_below e u names h)
    where
      by : (b : Bool) → unit_count domains (name ∷ names)
          ≡ (if b then 0 else length (arguments_of domains name)) + unit_count domains names
          → ((e u : ℕ) → u + unit_count domains names ≤ most
          → list_all (has_units_below domains most) (numbered domains e u names) ≡ true)
          → ((b || nat_lt ((if b then event else unit) + length (arguments_of domains name))
          (most + 1))
          && list_all (has_units_below domains most)
          (numbered domains (if b then event + length (arguments_of domains name) else event) (if b
          then unit else unit + length (arguments_of domains name)) names)) ≡ true
      by true sum rest = rest (event + length (arguments_of domains name)) unit
          (omega (arith, sum, few))
      by false sum rest =
          and_from (nat_lt (unit + length (arguments_of domains name)) (most + 1))
          (list_all (has_units_below domains most)
          (numbered domains event (unit + length (arguments_of domains name)) names))
          (lt-ltb (unit + length (arguments_of domains name)) (most + 1) (omega (arith, sum, few)))
          (rest event (unit + length (arguments_of domains name)) (omega (arith, sum, few)))
