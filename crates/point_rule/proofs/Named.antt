-- A test that all units pass that a rule names is passed by those of each of its conditions.
use Rattle.std.proofs.Common.{◌≡◌, ℕ, Bool, true, ◌&&◌, List, [], ◌∷◌, flat_map, refl, sym}
use Rattle.std.proofs.Common.{◌∙◌, ap₂}
use Rattle.std.specs.List.{list_all}
use Rattle.std.proofs.lemmas.Bool.{and_parts}
use Rattle.std.proofs.lemmas.List.Folds.{list_all-append}
use Rattle.ground_types.specs.Meaning.{units_of_trigger, units_of_what, units_of_rule}
use Rattle.ground_types.specs.declared.program.Cond.{Cond}
use Rattle.ground_types.specs.declared.program.Rule.{Rule}

all_flat : (test : ℕ → Bool) (conds : List Cond) →
    list_all test (flat_map (λ cond. units_of_what cond.what) conds)
    ≡ list_all (λ cond. list_all test (units_of_what cond.what)) conds
all_flat test [] = refl
all_flat test (c ∷ rest) =
    list_all-append test (units_of_what c.what) (flat_map (λ cond. units_of_what cond.what) rest)
    ∙ ap₂ (λ (a b : Bool). a && b) refl (all_flat test rest)

pub of_conditions : (test : ℕ → Bool) (rule : Rule) → list_all test (units_of_rule rule) ≡ true →
    list_all (λ cond. list_all test (units_of_what cond.what)) rule.conds ≡ true
of_conditions test rule all =
    sym (all_flat test rule.conds)
    ∙ (and_parts (list_all test (units_of_trigger rule.trigger))
    (list_all test (flat_map (λ cond. units_of_what cond.what) rule.conds))
    (sym (list_all-append test (units_of_trigger rule.trigger)
    (flat_map (λ cond. units_of_what cond.what) rule.conds)) ∙ all)).1
