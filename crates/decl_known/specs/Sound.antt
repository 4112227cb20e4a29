-- Public contracts speak by this: what is known of a description that was checked.
use Rattle.std.specs.Prelude.{◌≡◌, ◌<◌, ◌≤◌, ◌^◌, ℕ, nat_lt, nat_le, Bool, true, ◌&&◌, ◌==◌, List}
use Rattle.std.specs.Prelude.{◌++◌, length, None}
use Rattle.std.specs.List.{list_all}
use Rattle.rt_base.specs.Kinds.{is_name}
use Rattle.ground_types.specs.Windows.{IsSoundPlan}
use Rattle.ground_types.specs.Sound.{is_distinct, are_constants}
use Rattle.ground_types.specs.declared.plan.Plan.{Plan}
use Rattle.ground_types.specs.declared.program.Domain.{Domain}
use Rattle.ground_types.specs.declared.program.Name.{Name}
use Rattle.ground_types.specs.declared.program.NameKind.{NameKind}
use Rattle.ground_types.specs.declared.program.NameKind.TheVariants as name_kind
use Rattle.rule_forms.specs.declared.syntax.Statement.{Statement}
use Rattle.rule_forms.specs.Forms.{plain_form, is_rule}
use Rattle.rule_forms.specs.Sound.{AllOf, IsSoundStatement}
use Rattle.decl_known.specs.declared.checked.Checked.{Checked}
use Rattle.ground_types.specs.Words.{domain_words, name_words}
use Rattle.decl_known.specs.Rules.{rule_fault}

-- a plan of allowed numbers
abbrev pub is_allowed : Plan → Bool
is_allowed plan =
    nat_le 1 plan.step && nat_le plan.step plan.window && nat_le plan.window 1000000000000
    && nat_le plan.from 4000000000000000
    && nat_le 1 plan.queries && nat_le plan.queries 1024

-- a domain of at most 4,096 different entities
abbrev pub is_sound_domain : Domain → Bool
is_sound_domain domain = is_name domain.word && are_constants domain.entities
    && nat_le (length domain.entities) 4096

-- a fluent has 1 to 64 different values, an event none
abbrev pub has_sound_values : NameKind → List (List ℕ) → Bool
has_sound_values name_kind.Input values = length values == 0
has_sound_values name_kind.Derived values = length values == 0
has_sound_values kind values = are_constants values && nat_le 1 (length values)
    && nat_le (length values) 64

-- a name over at most 3 of so many domains
abbrev pub is_sound_name : ℕ → Name → Bool
is_sound_name domains name =
    is_name name.word && nat_le (length name.args) 3 && list_all (λ d. nat_lt d domains) name.args
    && has_sound_values name.kind name.values

-- a statement that defines a fluent or a derived event, of a sound form, and that breaks no rule
abbrev pub IsSoundRule : List Domain → List Name → Statement → Type 0
IsSoundRule domains names s =
    (is_rule (plain_form s.form) ≡ true) × IsSoundStatement s
    × (rule_fault domains names (plain_form s.form) ≡ None)

-- an allowed plan, words of their kinds, none declared twice, and nothing that a rule refuses
pub record IsSound (checked : Checked) : Type 0 where
  pub allowed : is_allowed checked.plan ≡ true
  -- what follows from that
  pub plan : IsSoundPlan checked.plan
  pub query_some : 1 ≤ checked.plan.queries
  pub domains_most : length checked.domains ≤ 64
  pub names_few : length checked.names < 2 ^ 32
  pub domains : list_all is_sound_domain checked.domains ≡ true
  pub names : list_all (is_sound_name (length checked.domains)) checked.names ≡ true
  pub distinct : is_distinct (domain_words checked.domains ++ name_words checked.names) ≡ true
  pub rules : AllOf (IsSoundRule checked.domains checked.names) checked.rules
