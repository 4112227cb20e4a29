-- What a description is grounded to is a sound program.
use Rattle.std.proofs.Common.{◌≡◌, ℕ, List, map, flat_map, None, Result, Ok, Err, IfOk, subst, sym}
use Rattle.std.proofs.Common.{ap}
use Rattle.rule_forms.specs.Forms.{plain}
use Rattle.decl_known.specs.declared.checked.Checked.{Checked}
use Rattle.decl_known.specs.Checked.{plain_checked}
use Rattle.decl_known.specs.Sound.{IsSound as IsSoundChecked}
use Rattle.decl_known.specs.Layers.{IsLayering}
use Rattle.ground_types.specs.declared.program.Program.{Program}
use Rattle.ground_types.specs.Windows.{IsSoundPlan}
use Rattle.ground_types.specs.Sound.{IsSound}
use Rattle.ground_rules.specs.Assignments.{instances}
use Rattle.ground_rules.specs.Grounded.{plain_program, grounded, clauses}
use Rattle.ground_rules.specs.declared.refused.GroundRefused.{GroundRefused}
use Rattle.ground_rules.specs.Limits.{exceeded}
use Rattle.ground_rules.specs.Answers.{Answers}
use Rattle.ground_rules.proofs.Mentioned.{instances_ground}
use Rattle.ground_rules.proofs.Fitting.{units_fit}
use Rattle.ground_rules.proofs.Layering.{layers_in_order}
use Rattle.ground_rules.proofs.RuleCounts.{units_within, events_within, rules_within}
use Rattle.ground_rules.proofs.UnitNumbers.{order, numbering, kinds}
use Rattle.ground_rules.proofs.KeptWords.{domain_numbers, words, entities, values}

pub sound_program : (checked : Checked) (of_name : List ℕ) (program : Program)
    → IsSoundChecked checked
    → IsLayering (map plain checked.rules) checked.names of_name
    → exceeded (plain_checked checked) ≡ None
    → plain_program program ≡ grounded (plain_checked checked) of_name
    → IsSound program
sound_program checked of_name program sound layering within same = record {
  plan = subst IsSoundPlan (sym (ap (λ p. p.plan) same)) sound.plan;
  units_most = units_within checked of_name program within same;
  events_most = events_within checked of_name program within same;
  rules_most = rules_within checked of_name program within same;
  domain_numbers = domain_numbers checked of_name program same sound;
  rule_numbers =
      units_fit program checked.domains checked.names
      (flat_map instances (clauses (plain_checked checked)))
      (ap (λ p. p.units) same) (ap (λ p. p.names) same) (ap (λ p. p.events) same)
      (instances_ground checked sound);
  kinds = kinds checked of_name program same;
  names = words checked of_name program same sound;
  entities = entities checked of_name program same sound;
  values = values checked of_name program same sound;
  unit_order = order checked of_name program same;
  numbering = numbering checked of_name program same;
  layers = layers_in_order checked of_name layering sound program same;
}

-- so what is answered is sound
pub sound_answer : (checked : Checked) (of_name : List ℕ) → IsSoundChecked checked
    → IsLayering (map plain checked.rules) checked.names of_name
    → (answer : Result Program GroundRefused) → Answers answer (plain_checked checked) of_name
    → IfOk answer IsSound
sound_answer checked of_name sound layering (Ok program) is = sound_program checked of_name program
    sound layering is.0 is.1
sound_answer checked of_name sound layering (Err refusal) is = tt
