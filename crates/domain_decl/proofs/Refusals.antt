-- The tests of rules, one statement after the other.
use Rattle.std.proofs.Common.{◌≡◌, ℕ, ◌+◌, ◌<◌, List, length, map, take, drop, get_or, None, Err}
use Rattle.std.proofs.Common.{sym, ap, ap₂, subst, ◌∙◌}
use Rattle.ground_types.specs.declared.program.Domain.{Domain}
use Rattle.ground_types.specs.declared.program.Name.{Name}
use Rattle.rule_forms.specs.declared.syntax.Statement.{Statement}
use Rattle.rule_forms.specs.Forms.{plain, plain_form}
use Rattle.decl_known.specs.declared.checked.DeclRefused.{DeclRefused}
use Rattle.decl_known.specs.Faults.{first_refusal, refused_at}
use Rattle.decl_known.specs.Rules.{rule_fault, rule_refusal}
use Rattle.domain_decl.specs.Testing.{Tests}
use Rattle.domain_decl.proofs.Prefixes.{refusal_next, without_fault, refused_first}

module _ (domains : List Domain) (names : List Name) (statements : List Statement) (i : ℕ)
    (s : Statement) (within : i < length statements)
    (at : s ≡ get_or statements i s)
    (rest : rule_refusal domains names (map plain statements) ≡ first_refusal (λ before.
    rule_fault domains names) (map plain (take i statements)) (map plain (drop i statements)))
  where
    step : rule_refusal domains names (map plain statements)
        ≡ refused_at (rule_fault domains names (plain_form s.form)) s.line
        (first_refusal (λ before. rule_fault domains names) (map plain (take (i + 1) statements))
        (map plain (drop (i + 1) statements)))
    step = rest ∙ refusal_next statements i s within at (λ before. rule_fault domains names)

    -- tested over the same domains and names
    module _ (ds : List Domain) (ns : List Name) (same_domains : ds ≡ domains) (same_names : ns
        ≡ names) where
      tested : refused_at (rule_fault ds ns (plain_form s.form)) s.line None
          ≡ refused_at (rule_fault domains names (plain_form s.form)) s.line None
      tested = ap₂ (λ ds ns. refused_at (rule_fault ds ns (plain_form s.form)) s.line None)
          same_domains same_names

      -- the first rule that is refused
      pub rule_refused : (e : DeclRefused)
          → Tests (Err e) (refused_at (rule_fault ds ns (plain_form s.form)) s.line None)
          → Tests (Err e) (rule_refusal domains names (map plain statements))
      rule_refused e h = subst (Tests (Err e)) (sym step)
          (refused_first (rule_fault domains names (plain_form s.form)) s.line _ e
          (subst (Tests (Err e)) tested h))

      -- a rule that passes
      pub rule_passed : refused_at (rule_fault ds ns (plain_form s.form)) s.line None ≡ None
          → rule_refusal domains names (map plain statements)
          ≡ first_refusal (λ before. rule_fault domains names) (map plain (take (i + 1) statements))
          (map plain (drop (i + 1) statements))
      rule_passed h =
          step ∙ ap (λ f. refused_at f s.line (first_refusal (λ before. rule_fault domains names)
          (map plain (take (i + 1) statements)) (map plain (drop (i + 1) statements))))
          (without_fault (rule_fault domains names (plain_form s.form)) s.line (sym tested ∙ h))
