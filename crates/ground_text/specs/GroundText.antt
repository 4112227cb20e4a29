-- Public contracts speak by this: *ground text*, a description, and what defines each of its units
-- once its variables are gone.
use Rattle.std.specs.Prelude.{◌≡◌, ℕ, List, [], ◌++◌, map, flat_map, slice_get, slice_index_or}
use Rattle.std.specs.Prelude.{codes, decimal, Option, Some, None, if◌then◌else◌}
use Rattle.std.specs.List.{enumerate_from}
use Rattle.ground_types.specs.declared.program.Domain.{Domain}
use Rattle.ground_types.specs.declared.program.Name.{Name}
use Rattle.ground_types.specs.declared.program.Program.{Program}
use Rattle.rule_forms.specs.declared.form.Term.TheVariants as term
use Rattle.rule_forms.specs.declared.form.Fv.{Fv}
use Rattle.rule_forms.specs.Forms.{PlainForm, PlainStatement, Initially}
use Rattle.rule_read.specs.FormTokens.{form_tokens}
use Rattle.rule_read.specs.Canonical.{line_of, text_of}
use Rattle.decl_known.specs.Checked.{PlainChecked, plain_checked}
use Rattle.decl_known.specs.declared.checked.Checked.{Checked}
use Rattle.ground_rules.specs.Assignments.{Instance, instances}
use Rattle.ground_rules.specs.Grounded.{PlainKind, Simple_is, PlainUnit, PlainProgram, instances_at}
use Rattle.ground_rules.specs.Grounded.{greatest_layer, event_count, clauses, plain_program}
use Rattle.ground_rules.specs.Grounded.{grounded}
use Rattle.ground_rules.specs.Limits.{unit_count, counts_as_rule, rule_count}
use Rattle.ground_rules.specs.Stated.{stated}
use Rattle.text_pieces.specs.Atoms.{entity_words, named_atom}

-- a form on a line of its own, behind two spaces
abbrev pub inner_line : PlainForm → List ℕ
inner_line form = codes "  " ++ line_of (form_tokens form)

-- `events 2 units 1 rules 2 layers 1`
abbrev pub counts_text : ℕ → ℕ → ℕ → ℕ → List ℕ
counts_text events units rules layers =
    codes "events " ++ decimal events ++ codes " units " ++ decimal units ++ codes " rules "
    ++ decimal rules
    ++ codes " layers " ++ decimal layers ++ codes "\n"

-- a value of a ground fluent
abbrev pub ground_fv : List Domain → Name → List ℕ → ℕ → Fv
ground_fv domains name args v = record {
  atom = record { name = name.word; args = map term.Entity (entity_words domains name.args args) };
  value = slice_index_or name.values v [];
}

-- `  initially(on=true).`, where a unit has an initial value
abbrev pub initially_text : List Domain → Option Name → List ℕ → PlainKind → List ℕ
initially_text domains (Some name) args (Simple_is (Some v) initiate terminate) =
    inner_line (Initially (ground_fv domains name args v))
initially_text domains name args kind = []

-- the line of an instance of a rule or of a holdsFor statement
abbrev pub instance_text : Instance → List ℕ
instance_text i = if counts_as_rule i.clause.form then inner_line (stated i) else []

-- the lines of a unit of a layer, with the instances that have it as head
abbrev pub unit_text : List Domain → List Name → ℕ → PlainUnit → List Instance → List ℕ
unit_text domains names layer unit mine =
    codes "layer " ++ decimal layer ++ codes " " ++ named_atom domains (slice_get names unit.name)
    unit.args ++ codes "\n"
    ++ initially_text domains (slice_get names unit.name) unit.args unit.kind
    ++ flat_map instance_text mine

-- (each number in a layer is one of a unit)
abbrev pub numbered_text : List Domain → List Name → ℕ → Option PlainUnit → List Instance → List ℕ
numbered_text domains names layer None mine = []
numbered_text domains names layer (Some unit) mine = unit_text domains names layer unit mine

-- the units of a layer, in order
abbrev pub layer_text : PlainProgram → List Instance → ℕ × List ℕ → List ℕ
layer_text program all layer =
    flat_map (λ unit. numbered_text program.domains program.names layer.0
    (slice_get program.units unit) (instances_at unit all)) layer.1

-- all layers, from layer 1 on
abbrev pub layers_text : PlainProgram → List Instance → List ℕ
layers_text program all = flat_map (layer_text program all) (enumerate_from 1 program.layers)

-- how much there is of what, and all layers of the program that has these layers of names
abbrev pub program_text : PlainChecked → List ℕ → List ℕ
program_text checked of_name =
    counts_text (event_count checked.domains checked.names) (unit_count checked.domains
    checked.names) (rule_count (clauses checked))
    (greatest_layer of_name)
    ++ layers_text (grounded checked of_name) (flat_map instances (clauses checked))

-- *Ground text* of statements that declare something, from the layers of its names
abbrev pub ground_text : List PlainStatement → PlainChecked → List ℕ → List ℕ
ground_text statements checked of_name = text_of (map (λ s. s.form) statements) ++ program_text
    checked of_name

-- the program is that of what is declared, with some layers of its names
pub record IsGroundedFrom (checked : Checked) (program : Program) : Type 0 where
  pub of_name : List ℕ
  pub is : plain_program program ≡ grounded (plain_checked checked) of_name
