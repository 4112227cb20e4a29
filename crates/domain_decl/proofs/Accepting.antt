-- What was tested, put together.
use Rattle.std.proofs.Common.{◌≡◌, ◌≤◌, ◌<◌, ◌^◌, true, List, [], ◌++◌, length, map, Some, None, Ok}
use Rattle.std.proofs.Common.{Err, refl, sym, ap, ap₂, subst, ◌∙◌, arith}
use Rattle.ground_types.specs.Sound.{is_distinct}
use Rattle.ground_types.specs.declared.plan.Plan.{Plan}
use Rattle.ground_types.specs.declared.program.Domain.{Domain}
use Rattle.ground_types.specs.declared.program.Name.{Name}
use Rattle.rule_forms.specs.declared.syntax.Statement.{Statement}
use Rattle.rule_forms.specs.Forms.{PlainStatement, plain}
use Rattle.rule_forms.specs.Sound.{AllOf, IsSoundStatement}
use Rattle.decl_known.specs.declared.checked.DeclRefused.{DeclRefused}
use Rattle.decl_known.specs.declared.checked.DeclRefused.TheVariants as refused
use Rattle.domain_decl.specs.Plans.{plan_of, only, only_or, all_in, window_in, step_in, from_in}
use Rattle.domain_decl.specs.Plans.{queries_in}
use Rattle.domain_decl.specs.Contents.{domains_of, names_of, rules_of}
use Rattle.ground_types.specs.Words.{domain_words, name_words}
use Rattle.domain_decl.specs.Declarations.{declaration_fault, declaration_refusal}
use Rattle.decl_known.specs.Rules.{rule_fault, rule_refusal}
use Rattle.decl_known.specs.Checked.{plain_checked}
use Rattle.domain_decl.specs.Accepted.{accept, checked_with, checking, or_else, Answers}
use Rattle.domain_decl.specs.Testing.{Tests}
use Rattle.decl_known.specs.Sound.{IsSound, is_sound_domain, is_sound_name}
use Rattle.std.specs.List.{list_all}
use Rattle.word_table.proofs.WordLists.{is_distinct-front}
use Rattle.domain_decl.proofs.Passed.{all_pass}
use Rattle.domain_decl.proofs.DeclaredWords.{declared_distinct}
use Rattle.domain_decl.proofs.SoundPlan.{is_allowed-plan_by, sound_plan}
use Rattle.domain_decl.proofs.SoundDeclarations.{domains_most, domains_sound, names_sound}
use Rattle.domain_decl.proofs.SoundDeclarations.{names_most}
use Rattle.domain_decl.proofs.SoundRules.{plain_sound, rules_sound}

module _ (all : List PlainStatement) (passes : declaration_refusal all ≡ None) where
  -- domains whose declarations pass are few, and none stands twice
  pub domains_few : (domains : List Domain) → domains ≡ domains_of all → length domains ≤ 64
  domains_few domains d = subst (λ ds. length ds ≤ 64) (sym d)
      (domains_most all (all_pass (declaration_fault all) [] all passes))

  module _ (domains : List Domain) (d : domains ≡ domains_of all) (names : List Name) (n : names
      ≡ names_of (domain_words domains) all) where
    pub words_different : is_distinct (domain_words domains ++ name_words names) ≡ true
    words_different =
        ap₂ (λ ds ns. is_distinct (domain_words ds ++ name_words ns)) d n
        ∙ declared_distinct all (all_pass (declaration_fault all) [] all passes)
        (domain_words domains)

  pub domains_different : (domains : List Domain) → domains ≡ domains_of all
      → is_distinct (domain_words domains) ≡ true
  domains_different domains d =
      is_distinct-front (domain_words domains) (name_words (names_of (domain_words domains) all))
      (words_different domains d (names_of (domain_words domains) all) refl)

-- as many names as statements at most
pub names_below : (statements : List Statement) (few : length statements < 2 ^ 32)
    (domains : List Domain) (names : List Name)
    → names ≡ names_of (domain_words domains) (map plain statements)
    → length (map plain statements) ≡ length statements → length names < 2 ^ 32
names_below statements few domains names n same =
    let most : length (names_of (domain_words domains) (map plain statements)) ≤ length
    (map plain statements) = names_most domains (map plain statements) in
    let equal : length names ≡ length (names_of (domain_words domains) (map plain statements)) =
    ap length n in
    omega arith

module _ (all : List PlainStatement) (plan : Plan) (p : Some plan ≡ plan_of all)
    (passes : declaration_refusal all ≡ None)
    (domains : List Domain) (d : domains ≡ domains_of all) (names : List Name) (n : names
    ≡ names_of (domain_words domains) all) where
  gives : checking all ≡ accept plan all (rule_refusal domains names all)
  gives =
      ap (λ o. checked_with o all) (sym p)
      ∙ ap (λ o. accept plan all (or_else o (rule_refusal (domains_of all)
      (names_of (domain_words (domains_of all)) all) all))) passes
      ∙ ap₂ (λ ds ns. accept plan all (rule_refusal ds ns all)) (sym d)
      (ap (λ ds. names_of (domain_words ds) all) (sym d) ∙ sym n)

  -- where a rule is refused
  pub refused_by_rule : (e : DeclRefused) → Tests (Err e) (rule_refusal domains names all)
      → Answers (Err e) (checking all)
  refused_by_rule refused.OutOfMemory h = tt
  refused_by_rule e h = gives ∙ ap (accept plan all) h

  -- where none is
  pub accepted : rule_refusal domains names all ≡ None → (rules : List Statement) → map plain rules
      ≡ rules_of all
      → checking all ≡ Ok (plain_checked (record {
        plan = plan;
        domains = domains;
        names = names;
        rules = rules;
      }))
  accepted h rules r =
      gives ∙ ap (accept plan all) h
      ∙ ap₂ (λ ds ns. Ok (record { plan = plan; domains = ds; names = ns; rules = rules_of all }))
      (sym d) (ap (λ ds. names_of (domain_words ds) all) (sym d) ∙ sym n)
      ∙ ap (λ rs. Ok (record { plan = plan; domains = domains; names = names; rules = rs })) (sym r)

-- what was accepted is sound
module _ (statements : List Statement) (few : length statements < 2 ^ 32)
    (forms : AllOf IsSoundStatement statements) (same : length (map plain statements)
    ≡ length statements)
    (plan : Plan) (p : Some plan ≡ plan_of (map plain statements)) (passes : declaration_refusal
    (map plain statements) ≡ None)
    (domains : List Domain) (d : domains ≡ domains_of (map plain statements)) (names : List Name)
    (n : names ≡ names_of (domain_words domains) (map plain statements))
    (rules_pass : rule_refusal domains names (map plain statements) ≡ None)
    (rules : List Statement) (r : map plain rules ≡ rules_of (map plain statements)) where
  pub accepted_sound : IsSound (record {
    plan = plan;
    domains = domains;
    names = names;
    rules = rules;
  })
  accepted_sound =
      let all = map plain statements in
      let declared = all_pass (declaration_fault all) [] all passes in
      let tested = all_pass (λ before. rule_fault domains names) [] all rules_pass in
      let sound = plain_sound statements forms in
      let allowed = is_allowed-plan_by (only (all_in window_in all)) (only (all_in step_in all))
      (only_or 0 (all_in from_in all)) (only_or 1024 (all_in queries_in all)) plan (sym p) in
      let sound_numbers = sound_plan plan allowed in
      record {
        allowed = allowed;
        plan = sound_numbers.0;
        query_some = sound_numbers.1;
        domains_most = domains_few all passes domains d;
        names_few = names_below statements few domains names n same;
        domains = ap (list_all is_sound_domain) d ∙ domains_sound all [] all declared sound;
        names = ap (list_all (is_sound_name (length domains))) n ∙ names_sound domains all [] all
            declared sound;
        distinct = words_different all passes domains d names n;
        rules = rules_sound domains names all rules r tested sound;
      }
