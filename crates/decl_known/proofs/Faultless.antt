-- What is known of a statement that breaks no rule.
use Rattle.std.proofs.Common.{◌≡◌, Bool, true, false, List, Option, Some, None, refl, sym}
use Rattle.std.proofs.Common.{if◌then◌else◌}
use Rattle.std.proofs.lemmas.Option.{none-some}
use Rattle.std.specs.List.{list_any}
use Rattle.ground_types.specs.declared.program.Domain.{Domain}
use Rattle.ground_types.specs.declared.program.Name.{Name}
use Rattle.rule_forms.specs.Forms.{PlainForm}
use Rattle.decl_known.specs.Faults.{Fault}
use Rattle.decl_known.specs.Mentions.{mentions}
use Rattle.decl_known.specs.Rules.{lacks_trigger, is_of_wrong_kind, has_wrong_arity}
use Rattle.decl_known.specs.Rules.{has_undeclared_word, has_clash, rule_fault}

pub record Passes (domains : List Domain) (names : List Name) (form : PlainForm) : Type 0 where
  pub trigger : lacks_trigger form ≡ false
  pub kinds : list_any (is_of_wrong_kind names) (mentions form) ≡ false
  pub arities : list_any (has_wrong_arity names) (mentions form) ≡ false
  pub words : list_any (has_undeclared_word domains names) (mentions form) ≡ false
  pub clashes : has_clash names form ≡ false

-- the first of some tests passes, and so do the others
first_passes : (test : Bool) (fault : Fault) (others : Option Fault)
    → (if test then Some fault else others) ≡ None → (test ≡ false) × (others ≡ None)
first_passes true fault others e = absurd (none-some fault (sym e))
first_passes false fault others e = (refl, e)

pub passes : (domains : List Domain) (names : List Name) (form : PlainForm)
    → rule_fault domains names form ≡ None → Passes domains names form
passes domains names form e =
    let size = first_passes _ _ _ e in
    let trigger = first_passes _ _ _ size.1 in
    let declared = first_passes _ _ _ trigger.1 in
    let kinds = first_passes _ _ _ declared.1 in
    let arities = first_passes _ _ _ kinds.1 in
    let words = first_passes _ _ _ arities.1 in
    record {
      trigger = trigger.0;
      kinds = kinds.0;
      arities = arities.0;
      words = words.0;
      clashes = (first_passes _ _ _ words.1).0;
    }
