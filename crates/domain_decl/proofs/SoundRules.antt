-- Rules that were accepted are sound.
use Rattle.std.proofs.Common.{◌≡◌, Bool, true, false, cond, List, [], ◌∷◌, ◌++◌, map, None, refl}
use Rattle.std.proofs.Common.{sym, subst}
use Rattle.ground_types.specs.declared.program.Domain.{Domain}
use Rattle.ground_types.specs.declared.program.Name.{Name}
use Rattle.rule_forms.specs.declared.syntax.Statement.{Statement}
use Rattle.rule_forms.specs.Forms.{PlainStatement, plain, is_rule}
use Rattle.rule_forms.specs.Sound.{AllOf, IsSoundForm, IsSoundStatement}
use Rattle.domain_decl.specs.Contents.{rules_of}
use Rattle.decl_known.specs.Rules.{rule_fault}
use Rattle.decl_known.specs.Sound.{IsSoundRule}
use Rattle.domain_decl.proofs.Passed.{AllPass}

abbrev pub AreSoundForms : List PlainStatement → Type 0
AreSoundForms ss = AllOf (λ (s : PlainStatement). IsSoundForm s.form) ss

pub plain_sound : (statements : List Statement) → AllOf IsSoundStatement statements
    → AreSoundForms (map plain statements)
plain_sound [] h = tt
plain_sound (s ∷ ss) h = (h.0, plain_sound ss h.1)

module _ (domains : List Domain) (names : List Name) where
  abbrev pub IsPlainRule : PlainStatement → Type 0
  IsPlainRule s = (is_rule s.form ≡ true) × IsSoundForm s.form × (rule_fault domains names s.form
      ≡ None)

  with_rule : (s : PlainStatement) (b : Bool) → is_rule s.form ≡ b → IsSoundForm s.form
      → rule_fault domains names s.form ≡ None → (rest : List PlainStatement)
      → AllOf IsPlainRule rest
      → AllOf IsPlainRule (cond b (s ∷ rest) rest)
  with_rule s true e sound fault rest h = ((e, sound, fault), h)
  with_rule s false e sound fault rest h = h

  rules_pass : (before ss : List PlainStatement) → AllPass (λ before. rule_fault domains names)
      before ss → AreSoundForms ss → AllOf IsPlainRule (rules_of ss)
  rules_pass before [] h s = tt
  rules_pass before (x ∷ xs) h s = with_rule x (is_rule x.form) refl s.0 h.0 (rules_of xs)
      (rules_pass (before ++ x ∷ []) xs h.1 s.1)

  back : (rules : List Statement) → AllOf IsPlainRule (map plain rules)
      → AllOf (IsSoundRule domains names) rules
  back [] h = tt
  back (r ∷ rs) h = (h.0, back rs h.1)

  pub rules_sound : (ss : List PlainStatement) (rules : List Statement) → map plain rules
      ≡ rules_of ss → AllPass (λ before. rule_fault domains names) [] ss → AreSoundForms ss
      → AllOf (IsSoundRule domains names) rules
  rules_sound ss rules same h s = back rules (subst (AllOf IsPlainRule) (sym same)
      (rules_pass [] ss h s))
