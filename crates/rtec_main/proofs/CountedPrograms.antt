-- The program of a description that was taken.
use Rattle.std.proofs.Common.{◌≡◌, ℕ, ◌+◌, nat_le, Bool, true, ◌&&◌, if◌then◌else◌, List, []}
use Rattle.std.proofs.Common.{◌∷◌, length, refl, ap, ap₂, ◌∙◌, arith}
use Rattle.std.specs.List.{list_all}
use Rattle.std.proofs.lemmas.Bool.Decides.{nat_tests}
use Rattle.ground_types.specs.Sound.{is_input, arguments_of}
use Rattle.ground_types.specs.declared.program.Domain.{Domain}
use Rattle.ground_types.specs.declared.program.Name.{Name}
use Rattle.ground_types.specs.declared.program.NameKind.{NameKind}
use Rattle.ground_types.specs.declared.program.NameKind.TheVariants as name_kind
use Rattle.decl_known.specs.Sound.{has_sound_values, is_sound_name}
use Rattle.ground_names.specs.Numbers.{numbered}
use Rattle.ground_rules.specs.Grounded.{PlainProgram}
use Rattle.report_text.specs.Printed.{has_few_values, IsCounted}
use Rattle.rtec_main.specs.Reads.{IsSoundDescription}
use Rattle.rtec_main.specs.declared.inputs.Description.{Description}
use Rattle.std.proofs.lemmas.Bool.{and_parts}

-- ---- a test of kinds and values passes whatever the first numbers

numbered_alike : (test : NameKind → List (List ℕ) → Bool) (domains : List Domain) (event unit : ℕ)
    (names : List Name) →
    list_all (λ name. test name.kind name.values) (numbered domains event unit names)
    ≡ list_all (λ name. test name.kind name.values) names
numbered_alike test domains event unit [] = refl
numbered_alike test domains event unit (name ∷ names) =
    let count = length (arguments_of domains name) in
    ap (λ (b : Bool). test name.kind name.values && b)
    (numbered_alike test domains (if is_input name.kind then event + count else event)
    (if is_input name.kind then unit else unit + count) names)

-- ---- no name has many values

few_by : (kind : NameKind) (values : List (List ℕ)) → has_sound_values kind values ≡ true
    → nat_le (length values) 64 ≡ true
few_by name_kind.Input values h = grind (arith, nat_tests)
few_by name_kind.Derived values h = grind (arith, nat_tests)
few_by name_kind.Simple values h = (and_parts _ (nat_le (length values) 64) h).1
few_by name_kind.Static values h = (and_parts _ (nat_le (length values) 64) h).1

few_all : (n : ℕ) (names : List Name) → list_all (is_sound_name n) names ≡ true
    → list_all has_few_values names ≡ true
few_all n [] all = refl
few_all n (name ∷ names) all =
    ap₂ ◌&&◌
    (few_by name.kind name.values (and_parts _ (has_sound_values name.kind name.values)
    (and_parts (is_sound_name n name) (list_all (is_sound_name n) names) all).0).1)
    (few_all n names (and_parts (is_sound_name n name) (list_all (is_sound_name n) names) all).1)

abbrev is_few : NameKind → List (List ℕ) → Bool
is_few kind values = nat_le (length values) 64

-- the program of a description that was taken
pub counted_program_is : (found : Description) → IsSoundDescription found
    → IsCounted found.program
counted_program_is found sound =
    let named : found.program.names ≡ numbered found.checked.domains 0 0 found.checked.names =
    ap (λ (p : PlainProgram). p.names) sound.is_program in
    record {
      sound = sound.program;
      values_few =
          ap (list_all has_few_values) named ∙ numbered_alike is_few found.checked.domains 0 0
          found.checked.names
          ∙ few_all (length found.checked.domains) found.checked.names sound.checked.names;
    }
