-- Which limits a description may exceed.
use Rattle.std.proofs.Common.{◌≡◌, ℕ, nat_lt, Bool, true, false, if◌then◌else◌, List, [], ◌∷◌, ◌++◌}
use Rattle.std.proofs.Common.{Option, Some, refl, sym, ap, ◌∙◌}
use Rattle.std.specs.List.{list_all}
use Rattle.std.proofs.lemmas.Option.{same_Some}
use Rattle.rt_base.specs.declared.limit.Limit.{Limit}
use Rattle.ground_types.proofs.Members.{and_left, and_right}
use Rattle.decl_known.specs.Checked.{PlainChecked}
use Rattle.ground_rules.specs.Grounded.{clauses}
use Rattle.ground_rules.specs.Limits.{name_tests, clause_tests, row_tests, first_exceeded, exceeded}
use Rattle.rtec_main.specs.Reads.{is_described_limit}

found_by : (b : Bool) (limit which : Limit) (other : Option Limit) → is_described_limit limit
    ≡ true → (other ≡ Some which → is_described_limit which ≡ true)
    → (if b then Some limit else other) ≡ Some which → is_described_limit which ≡ true
found_by true limit which other is more e = sym (ap is_described_limit (same_Some limit which e))
    ∙ is
found_by false limit which other is more e = more e

found : (tests : List (ℕ × ℕ × Limit)) (which : Limit) → list_all (λ t. is_described_limit t.2)
    tests ≡ true → first_exceeded tests ≡ Some which → is_described_limit which ≡ true
found [] which are e = absurd cc
found ((count, most, limit) ∷ tests) which are e =
    found_by (nat_lt most count) limit which (first_exceeded tests)
    (and_left (is_described_limit limit) (list_all (λ t. is_described_limit t.2) tests) are)
    (found tests which (and_right (is_described_limit limit)
    (list_all (λ t. is_described_limit t.2) tests) are)) e

pub exceeded_is_described : (checked : PlainChecked) (which : Limit) → exceeded checked
    ≡ Some which → is_described_limit which ≡ true
exceeded_is_described checked which e =
    let names = name_tests checked.domains checked.names in
    let rows = row_tests checked.domains checked.names checked.plan.queries in
    found (names ++ clause_tests (clauses checked) ++ rows) which refl e
