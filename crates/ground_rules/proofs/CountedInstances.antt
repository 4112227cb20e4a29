-- Instances are counted one by one.
use Rattle.std.proofs.Common.{◌≡◌, ℕ, ◌+◌, ◌≤◌, Bool, true, false, List, [], ◌∷◌, ◌++◌, length, map}
use Rattle.std.proofs.Common.{filter, take, slice_get, Some, sym, ◌∙◌, ap, arith, length-append}
use Rattle.std.proofs.Common.{if◌then◌else◌}
use Rattle.std.proofs.lemmas.List.{map-append, take_more}
use Rattle.std.proofs.lemmas.List.Elements.{filter-append}
use Rattle.std.proofs.lemmas.Option.{get_or_from_slice_get, slice_get_within}
use Rattle.ground_rules.specs.Assignments.{Clause, Instance, is_permitted, assignments}

abbrev instance_by : Clause → List ℕ → Instance
instance_by clause assignment = record { clause = clause; assignment = assignment }

-- so many of the first assignments are instances
pub record AreCounted (clause : Clause) (number count : ℕ) : Type 0 where
  pub is : count ≡ length (filter is_permitted
      (map (instance_by clause) (take number (assignments clause))))
  pub few : count ≤ number

module _ (clause : Clause) (number count : ℕ) (assignment : List ℕ)
    (at : slice_get (assignments clause) number ≡ Some assignment) (counted : AreCounted clause
    number count) where
  taken : take (number + 1) (assignments clause) ≡ take number (assignments clause) ++ assignment
      ∷ []
  taken = take_more (assignments clause) number assignment (slice_get_within (assignments clause)
      number assignment at)
      ∙ ap (λ a. take number (assignments clause) ++ a ∷ [])
      (get_or_from_slice_get (assignments clause) number assignment assignment at)

  abbrev passing : List (List ℕ) → List Instance
  passing all = filter is_permitted (map (instance_by clause) all)

  parts : length (passing (take (number + 1) (assignments clause))) ≡ count + length
      (passing (assignment ∷ []))
  parts =
      ap (λ l. length (passing l)) taken
      ∙ ap (λ l. length (filter is_permitted l)) (map-append (instance_by clause)
      (take number (assignments clause)) (assignment ∷ []))
      ∙ ap length (filter-append is_permitted
      (map (instance_by clause) (take number (assignments clause)))
      (instance_by clause assignment ∷ []))
      ∙ length-append (passing (take number (assignments clause))) (passing (assignment ∷ []))
      ∙ ap (λ n. n + length (passing (assignment ∷ []))) (sym counted.is)

  one_by : (permitted : Bool) → is_permitted (instance_by clause assignment) ≡ permitted
      → length (passing (assignment ∷ [])) ≡ (if permitted then 1 else 0)
  one_by true e = ap (λ b. length (if b then instance_by clause assignment ∷ [] else [])) e
  one_by false e = ap (λ b. length (if b then instance_by clause assignment ∷ [] else [])) e

  pub one_more : is_permitted (instance_by clause assignment) ≡ true
      → AreCounted clause (number + 1) (count + 1)
  one_more e = record {
    is = sym (parts ∙ ap (λ n. count + n) (one_by true e));
    few = let few =
        counted.few in omega (arith, few);
  }

  pub none_more : is_permitted (instance_by clause assignment) ≡ false
      → AreCounted clause (number + 1) count
  none_more e =
      let same : count ≡ count + 0 = omega arith in
      record {
        is = same ∙ sym (parts ∙ ap (λ n. count + n) (one_by false e));
        few = let few =
            counted.few in omega (arith, few);
      }
