-- Public contracts speak by this: what a description declares, domains and names in the order of
-- their statements, and the statements that define them.
use Rattle.std.specs.Prelude.{ℕ, Bool, true, false, List, [], map, filter, filter_map, Option, Some}
use Rattle.std.specs.Prelude.{None}
use Rattle.ground_types.specs.declared.program.Domain.{Domain}
use Rattle.ground_types.specs.declared.program.Name.{Name}
use Rattle.ground_types.specs.declared.program.NameKind.{NameKind}
use Rattle.ground_types.specs.declared.program.NameKind.TheVariants as name_kind
use Rattle.rule_forms.specs.declared.form.Decl.{Decl}
use Rattle.rule_forms.specs.Forms.{PlainForm, PlainStatement, Domain as DomainForm, Input, Simple}
use Rattle.rule_forms.specs.Forms.{Static, Derived, Initially, Initiated, Terminated, Happens}
use Rattle.rule_forms.specs.Forms.{HoldsFor, is_rule}
use Rattle.ground_types.specs.Words.{place_in}

abbrev pub domain_in : PlainForm → Option Domain
domain_in (DomainForm name entities) = Some (record { word = name; entities = entities })
domain_in form = None

abbrev pub domains_of : List PlainStatement → List Domain
domains_of statements = filter_map (λ s. domain_in s.form) statements

-- a name whose arguments are numbers of domains; its ground events or units are not numbered yet
abbrev pub declared_name : List (List ℕ) → NameKind → Decl → List (List ℕ) → ℕ → Name
declared_name domains kind decl values line = record {
  word = decl.name;
  kind = kind;
  args = filter_map (place_in domains) decl.args;
  values = values;
  first = 0;
  line = line;
}

-- the name that a form on a line declares
abbrev pub name_in : List (List ℕ) → PlainForm → ℕ → Option Name
name_in domains (Input decl) line = Some (declared_name domains name_kind.Input decl [] line)
name_in domains (Simple decl values) line =
    Some (declared_name domains name_kind.Simple decl values line)
name_in domains (Static decl values) line =
    Some (declared_name domains name_kind.Static decl values line)
name_in domains (Derived decl) line = Some (declared_name domains name_kind.Derived decl [] line)
name_in domains form line = None

abbrev pub names_of : List (List ℕ) → List PlainStatement → List Name
names_of domains statements = filter_map (λ s. name_in domains s.form s.line) statements

-- the statements that define fluents and derived events
abbrev pub rules_of : List PlainStatement → List PlainStatement
rules_of statements = filter (λ s. is_rule s.form) statements
