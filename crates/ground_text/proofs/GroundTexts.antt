-- The counts and the layers of a program are those of what is declared.
use Rattle.std.proofs.Common.{◌≡◌, ℕ, List, ◌++◌, length, map, flat_map, sym, ap, ap₂, ◌∙◌}
use Rattle.std.proofs.lemmas.List.{length-map}
use Rattle.std.proofs.lemmas.Simd.{map-map}
use Rattle.ground_types.specs.declared.program.Program.{Program}
use Rattle.rule_forms.specs.declared.syntax.Statement.{Statement}
use Rattle.rule_forms.specs.Forms.{PlainStatement, plain, plain_form}
use Rattle.decl_known.specs.Checked.{PlainChecked}
use Rattle.ground_rules.specs.Assignments.{Clause, instances}
use Rattle.ground_rules.specs.Grounded.{plain_unit, PlainProgram, plain_program, numbered_names}
use Rattle.ground_rules.specs.Grounded.{units_of, greatest_layer, event_count, clauses, grounded}
use Rattle.ground_rules.specs.Limits.{unit_count, rule_count}
use Rattle.ground_text.specs.GroundText.{counts_text, layers_text, program_text}
use Rattle.ground_text.proofs.UnitCounts.{units_counted, layers_counted}

module _ (checked : PlainChecked) (of_name : List ℕ) (program : Program)
    (made : plain_program program ≡ grounded checked of_name) where
  abbrev all : List Clause
  all = clauses checked

  pub count_of_units : length program.units ≡ unit_count checked.domains checked.names
  count_of_units =
      sym (length-map program.units plain_unit) ∙ ap (λ (p : PlainProgram). length p.units) made
      ∙ units_counted checked.domains (flat_map instances all) checked.names

  count_of_layers : length program.layers ≡ greatest_layer of_name
  count_of_layers = ap (λ (p : PlainProgram). length p.layers) made ∙ layers_counted of_name
      (units_of checked.domains (numbered_names checked) (flat_map instances all))

  pub program_is : (listed : List Clause) → listed ≡ all → (rules : ℕ) → rules ≡ rule_count listed
      → counts_text program.events (length program.units) rules (length program.layers)
      ++ layers_text (plain_program program) (flat_map instances listed)
      ≡ program_text checked of_name
  program_is listed same rules count =
      ap₂ ◌++◌
      (ap₂ (λ events units. counts_text events units rules (length program.layers))
      (ap (λ (p : PlainProgram). p.events) made) count_of_units
      ∙ ap₂ (counts_text (event_count checked.domains checked.names) (unit_count checked.domains
      checked.names)) (count ∙ ap rule_count same) count_of_layers)
      (ap₂ layers_text made (ap (flat_map instances) same))

-- the forms of statements, which are seen without what has no meaning
pub forms_are : (statements : List Statement) → map (λ s. plain_form s.form) statements
    ≡ map (λ (s : PlainStatement). s.form) (map plain statements)
forms_are statements = sym (map-map (λ (s : PlainStatement). s.form) plain statements)
