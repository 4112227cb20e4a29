-- Tests that pass one after the other.
use Rattle.std.proofs.Common.{◌≡◌, ℕ, ◌≤◌, ltb, Bool, true, false, List, [], ◌∷◌, ◌++◌, Option}
use Rattle.std.proofs.Common.{Some, None, refl, sym, ◌∙◌, ap, if◌then◌else◌}
use Rattle.std.proofs.lemmas.Bool.{ltb-false}
use Rattle.std.proofs.lemmas.Option.{none-some}
use Rattle.rt_base.specs.declared.limit.Limit.{Limit}
use Rattle.ground_rules.specs.Limits.{first_exceeded}

behind_by : (over : Bool) (limit : Limit) (first : Option Limit)
    → (if over then Some limit else first) ≡ None → over ≡ false
behind_by true limit first none = absurd (none-some limit (sym none))
behind_by false limit first none = refl

-- where none of the first tests is exceeded, the others decide
pub exceeded_behind : (tests others : List (ℕ × ℕ × Limit)) → first_exceeded tests ≡ None
    → first_exceeded (tests ++ others) ≡ first_exceeded others
exceeded_behind [] others none = refl
exceeded_behind ((count, most, limit) ∷ tests) others none =
    let passed : ltb most count ≡ false = behind_by (ltb most count) limit (first_exceeded tests)
    none in
    ap (λ b. if b then Some limit else first_exceeded (tests ++ others)) passed
    ∙ exceeded_behind tests others (sym (ap (λ b. if b then Some limit else first_exceeded tests)
    passed) ∙ none)

within_by : (over : Bool) (count most : ℕ) (limit : Limit) (tests : List (ℕ × ℕ × Limit))
    → ltb most count ≡ over → (if over then Some limit else first_exceeded tests) ≡ None
    → (count ≤ most) × (first_exceeded tests ≡ None)
within_by true count most limit tests e none = absurd (none-some limit (sym none))
within_by false count most limit tests e none = (ltb-false most count e, none)

-- a count whose test passed is within its limit
pub first_within : (count most : ℕ) (limit : Limit) (tests : List (ℕ × ℕ × Limit))
    → first_exceeded ((count, most, limit) ∷ tests) ≡ None → (count ≤ most)
    × (first_exceeded tests ≡ None)
first_within count most limit tests none = within_by (ltb most count) count most limit tests refl
    none

both_by : (over : Bool) (limit : Limit) (tests others : List (ℕ × ℕ × Limit))
    → (first_exceeded (tests ++ others) ≡ None → (first_exceeded tests ≡ None)
    × (first_exceeded others ≡ None))
    → (if over then Some limit else first_exceeded (tests ++ others)) ≡ None
    → ((if over then Some limit else first_exceeded tests) ≡ None)
    × (first_exceeded others ≡ None)
both_by true limit tests others rest none = absurd (none-some limit (sym none))
both_by false limit tests others rest none = rest none

-- where none of all tests is exceeded, none of the first and none of the others is
pub both_within : (tests others : List (ℕ × ℕ × Limit)) → first_exceeded (tests ++ others) ≡ None
    → (first_exceeded tests ≡ None) × (first_exceeded others ≡ None)
both_within [] others none = (refl, none)
both_within ((count, most, limit) ∷ tests) others none = both_by (ltb most count) limit tests
    others (both_within tests others) none
