-- Why there are no layers, and no program.
use Rattle.std.proofs.Common.{◌≡◌, ℕ, true, List, Result, Ok, Err, refl}
use Rattle.rule_forms.specs.Forms.{PlainStatement}
use Rattle.rule_read.specs.Whole.{reading, Statements}
use Rattle.decl_known.specs.Checked.{PlainChecked}
use Rattle.domain_decl.specs.Accepted.{checking}
use Rattle.decl_known.specs.Occurrences.{IsFirstCycle}
use Rattle.decl_known.specs.declared.layers.LayerList.{LayerList}
use Rattle.strata_check.specs.declared.layering.StrataRefused.{StrataRefused}
use Rattle.strata_check.specs.declared.layering.StrataRefused.TheVariants as strata
use Rattle.ground_rules.specs.Answers.{Answers}
use Rattle.ground_rules.specs.declared.refused.GroundRefused.{GroundRefused}
use Rattle.ground_rules.specs.declared.refused.GroundRefused.TheVariants as grounding
use Rattle.rtec_main.specs.Reads.{IsDescriptionRefused, unlayered, ungrounded, has_described_limit}
use Rattle.rtec_main.proofs.Limited.{exceeded_is_described}

pub unlayered_is_refused : (text : List ℕ) (statements : List PlainStatement)
    (checked : PlainChecked) (e : StrataRefused)
    → reading text ≡ Statements statements → checking statements ≡ Ok checked
    → ((place line : ℕ) → ◌≡◌ {A = Result LayerList StrataRefused} (Err e)
    (Err (strata.Cyclic place line)) → IsFirstCycle checked.rules checked.names place line)
    → IsDescriptionRefused text (unlayered e)
unlayered_is_refused text statements checked (strata.Cyclic place line) read accepted cyclic =
    (statements, checked, place, (read, accepted), cyclic place line refl)
unlayered_is_refused text statements checked strata.OutOfMemory read accepted cyclic = tt

pub ungrounded_limit : (checked : PlainChecked) (of_name : List ℕ) (e : GroundRefused)
    → Answers (Err e) checked of_name → has_described_limit (ungrounded e) ≡ true
ungrounded_limit checked of_name (grounding.TooLarge which) h = exceeded_is_described checked which
    h
ungrounded_limit checked of_name grounding.OutOfMemory h = refl
