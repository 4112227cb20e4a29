-- The instances and conditions of statements are counted one statement after the other.
use Rattle.std.proofs.Common.{◌≡◌, ℕ, ◌+◌, ◌*◌, ◌<◌, ◌≤◌, List, [], ◌∷◌, ◌++◌, length, map, take}
use Rattle.std.proofs.Common.{get_or, sum_by, subst, sym, ◌∙◌, ap, ap₂, arith, if◌then◌else◌}
use Rattle.std.proofs.lemmas.List.{length-map, map-append, take_more, get_or-map}
use Rattle.std.proofs.lemmas.List.Sums.{sum_by-append, get_or-le-sum_by}
use Rattle.ground_names.proofs.Caps.{capped_add, capped_add_both, capped_mul_right}
use Rattle.ground_rules.specs.Assignments.{Clause, assignments, instances}
use Rattle.ground_names.specs.Counted.{capped}
use Rattle.ground_rules.specs.Limits.{assignment_count, rules_in, rule_count, conditions_in}
use Rattle.ground_rules.specs.Limits.{condition_count, counts_as_rule}

-- what some statements come to, or the greatest number where it is more
pub record AreTotals (clauses : List Clause) (rules conditions : ℕ) : Type 0 where
  pub rules_are : rules ≡ capped (rule_count clauses)
  pub conditions_are : conditions ≡ capped (condition_count clauses)

sum_one : {X : Type 0} (f : X → ℕ) (xs : List X) (x : X) → sum_by f (xs ++ x ∷ [])
    ≡ sum_by f xs + f x
sum_one f xs x = sum_by-append f xs (x ∷ []) ∙ ap (λ n. sum_by f xs + n) (omega arith)

module _ (clauses : List Clause) (clause : Clause) (rules conditions count : ℕ)
    (are : AreTotals clauses rules conditions) (is : count ≡ length (instances clause)) where
  rules_of_one : (if counts_as_rule clause.form then count else 0) ≡ rules_in clause
  rules_of_one = ap (λ n. if counts_as_rule clause.form then n else 0) is

  pub one_more : (more_rules more_conditions : ℕ) → more_rules ≡ (if counts_as_rule clause.form
      then count else 0) → more_conditions ≡ capped (count * capped (conditions_in clause.form))
      → AreTotals (clauses ++ clause ∷ []) (capped (rules + more_rules))
      (capped (conditions + more_conditions))
  one_more more_rules more_conditions r m = record {
    rules_are =
        ap₂ (λ a b. capped (a + b)) are.rules_are (r ∙ rules_of_one)
        ∙ capped_add (rule_count clauses) (rules_in clause)
        ∙ ap capped (sym (sum_one rules_in clauses clause));
    conditions_are =
        ap₂ (λ a b. capped (a + b)) are.conditions_are (m ∙ capped_mul_right count
        (conditions_in clause.form) ∙ ap (λ n. capped (n * conditions_in clause.form)) is)
        ∙ capped_add_both (condition_count clauses) (length (instances clause) * conditions_in
        clause.form)
        ∙ ap capped (sym (sum_one (λ clause. length (instances clause) * conditions_in clause.form)
        clauses clause));
  }

-- one of some lists after the other
pub next_of : {X : Type 0} (f : X → Clause) (xs : List X) (i : ℕ) (x : X) → i < length xs
    → x ≡ get_or xs i x → map f (take (i + 1) xs) ≡ map f (take i xs) ++ f x ∷ []
next_of f xs i x inside is =
    ap (map f) (take_more xs i x inside ∙ ap (λ y. take i xs ++ y ∷ []) (sym is))
    ∙ map-append f (take i xs) (x ∷ [])

-- each statement has at most as many assignments as all
pub few_of : {X : Type 0} (f : X → Clause) (xs : List X) (i : ℕ) (x : X) → i < length xs
    → x ≡ get_or xs i x → length (assignments (f x)) ≤ assignment_count (map f xs)
few_of f xs i x inside is =
    let at : get_or (map f xs) i (f x) ≡ f x = get_or-map f xs i x (f x) inside ∙ ap f (sym is) in
    let within : i < length (map f xs) = subst (λ n. i < n) (sym (length-map xs f)) inside in
    subst (λ c. length (assignments c) ≤ assignment_count (map f xs)) at
    (get_or-le-sum_by (λ c. length (assignments c)) (map f xs) i (f x) within)
