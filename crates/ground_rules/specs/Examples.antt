-- Evidence for what public contracts speak by: instances, numbers and limits, worked by hand.
-- Each equation holds by computation alone.
use Rattle.std.specs.Prelude.{◌≡◌, ℕ, true, false, List, [], ◌∷◌, map, codes, Option, Some, None}
use Rattle.std.specs.Prelude.{refl}
use Rattle.rt_base.specs.declared.limit.Limit.TheVariants as limit
use Rattle.ground_types.specs.declared.plan.Plan.{Plan}
use Rattle.ground_types.specs.declared.program.Domain.{Domain}
use Rattle.ground_types.specs.declared.program.Name.{Name}
use Rattle.ground_types.specs.declared.program.NameKind.{NameKind}
use Rattle.ground_types.specs.declared.program.NameKind.TheVariants as name_kind
use Rattle.ground_types.specs.declared.program.Program.{Program}
use Rattle.ground_types.specs.declared.program.Rule.{Rule}
use Rattle.ground_types.specs.declared.program.Trigger.TheVariants as trigger
use Rattle.ground_types.specs.declared.program.What.TheVariants as what
use Rattle.rule_forms.specs.declared.form.Term.{Term}
use Rattle.rule_forms.specs.declared.form.Term.TheVariants as term
use Rattle.rule_forms.specs.declared.form.Atom.{Atom}
use Rattle.rule_forms.specs.declared.form.Fv.{Fv}
use Rattle.rule_forms.specs.declared.form.EventText.TheVariants as event
use Rattle.rule_forms.specs.declared.form.Body.{Body}
use Rattle.rule_forms.specs.declared.form.Body.TheVariants as body
use Rattle.rule_forms.specs.Forms.{PlainForm, PlainStatement, Value_of, Intersect_of, none, more}
use Rattle.rule_forms.specs.Forms.{Initially, Initiated, Terminated, Happens, HoldsFor}
use Rattle.decl_known.specs.Checked.{PlainChecked}
use Rattle.ground_names.specs.Numbers.{numbered, number_of}
use Rattle.ground_rules.specs.Assignments.{Clause, Instance, variables_of, assignments, instances}
use Rattle.ground_rules.specs.Atoms.{head_unit}
use Rattle.ground_rules.specs.Grounded.{PlainUnit, Derived_is, initiation_by, occurrence_by}
use Rattle.ground_rules.specs.Grounded.{opening_of, layers_of, event_count, clauses}
use Rattle.ground_rules.specs.Stated.{stated as said}
use Rattle.ground_names.specs.EventAtoms.{event_atoms}
use Rattle.ground_rules.specs.Limits.{unit_count, row_count, assignment_count, rule_count}
use Rattle.ground_rules.specs.Limits.{condition_count, first_exceeded, exceeded}

-- domain ship [x, y]. domain port [y, z, x].
abbrev domains : List Domain
domains = record { word = codes "ship"; entities = codes "x" ∷ codes "y" ∷ [] } ∷ record {
  word =
      codes "port";
  entities = codes "y" ∷ codes "z" ∷ codes "x" ∷ [];
} ∷ []

abbrev plan : Plan
plan = record { window = 10; step = 5; from = 0; queries = 1024 }

abbrev named : List ℕ → NameKind → List ℕ → List (List ℕ) → Name
named word kind args values = record {
  word = word;
  kind = kind;
  args = args;
  values = values;
  first = 0;
  line = 1;
}

-- input enters(ship, port). simple within(ship, port) [no, yes]. input bell. derived meets(ship,
-- ship).
abbrev names : List Name
names = numbered domains 0 0 (
    named (codes "enters") name_kind.Input (0 ∷ 1 ∷ []) []
    ∷ named (codes "within") name_kind.Simple (0 ∷ 1 ∷ []) (codes "no" ∷ codes "yes" ∷ [])
    ∷ named (codes "bell") name_kind.Input [] []
    ∷ named (codes "meets") name_kind.Derived (0 ∷ 0 ∷ []) []
    ∷ [])

-- six ground events `enters`, and then `bell`; six units `within`, and then those of `meets`
its_firsts : map (λ name. name.first) names ≡ 0 ∷ 0 ∷ 6 ∷ 6 ∷ []
its_firsts = refl

abbrev atom : List ℕ → List Term → Atom
atom name args = record { name = name; args = args }

abbrev variable : List ℕ → Term
variable word = term.Variable word

abbrev within : List Term → Fv
within args = record { atom = atom (codes "within") args; value = codes "yes" }

abbrev over : PlainForm → Clause
over form = record { domains = domains; names = names; form = form }

abbrev assigned : List Instance → List (List ℕ)
assigned is = map (λ i. i.assignment) is

-- initiatedAt(within(S, P)=yes) :- happensAt(enters(S, P)), S \= P.
abbrev entering : PlainForm
entering = Initiated (within (variable (codes "S") ∷ variable (codes "P") ∷ []))
    (body.Happens true (event.Plain (atom (codes "enters") (variable (codes "S") ∷ variable
    (codes "P") ∷ []))) ∷ body.Unequal (codes "S") (codes "P") ∷ [])

-- the first variable is the slowest
its_assignments : assignments (over entering) ≡ (0 ∷ 0 ∷ []) ∷ (0 ∷ 1 ∷ []) ∷ (0 ∷ 2 ∷ [])
    ∷ (1 ∷ 0 ∷ []) ∷ (1 ∷ 1 ∷ []) ∷ (1 ∷ 2 ∷ []) ∷ []
its_assignments = refl

-- words are compared, also of two domains: neither x and x nor y and y, but the first of one and
-- the first of the other
its_instances : assigned (instances (over entering)) ≡ (0 ∷ 0 ∷ []) ∷ (0 ∷ 1 ∷ []) ∷ (1 ∷ 1 ∷ [])
    ∷ (1 ∷ 2 ∷ []) ∷ []
its_instances = refl

-- \= leaves no condition behind
its_rules : map {B = ℕ × Option Rule} (λ i. (head_unit i, initiation_by i entering))
    (instances (over entering))
    ≡ (0, Some (record { value = 1; trigger = trigger.Event 0; conds = [] }))
    ∷ (1, Some (record { value = 1; trigger = trigger.Event 1; conds = [] }))
    ∷ (4, Some (record { value = 1; trigger = trigger.Event 4; conds = [] }))
    ∷ (5, Some (record { value = 1; trigger = trigger.Event 5; conds = [] })) ∷ []
its_rules = refl

-- happensAt(meets(x, T)) :- happensAt(start(within(x, P)=yes)), U \= T, not holdsAt(within(U,
-- P)=yes).
abbrev meeting : PlainForm
meeting = Happens (atom (codes "meets") (term.Entity (codes "x") ∷ variable (codes "T") ∷ []))
    (body.Happens true (event.Start (within (term.Entity (codes "x") ∷ variable (codes "P") ∷ [])))
    ∷ body.Unequal (codes "U") (codes "T")
    ∷ body.Holds false (within (variable (codes "U") ∷ variable (codes "P") ∷ []))
    ∷ [])

-- variables in the order of the text, head first, those of \= where they stand
its_variables : variables_of meeting ≡ codes "T" ∷ codes "P" ∷ codes "U" ∷ []
its_variables = refl

-- T is x, P is y and U is y, and so on: six of twelve
its_meetings : assigned (instances (over meeting)) ≡ (0 ∷ 0 ∷ 1 ∷ []) ∷ (0 ∷ 1 ∷ 1 ∷ [])
    ∷ (0 ∷ 2 ∷ 1 ∷ []) ∷ (1 ∷ 0 ∷ 0 ∷ []) ∷ (1 ∷ 1 ∷ 0 ∷ []) ∷ (1 ∷ 2 ∷ 0 ∷ []) ∷ []
its_meetings = refl

abbrev second_meeting : Instance
second_meeting = record { clause = over meeting; assignment = 0 ∷ 1 ∷ 1 ∷ [] }

its_body : ◌≡◌ {A = ℕ × Option Rule} (
  head_unit second_meeting,
  occurrence_by second_meeting
      meeting,
) (
  6,
  Some (record {
    value = 0;
    trigger = trigger.Start 1 1;
    conds = record {
      positive = false;
      what = what.Holds 4 1;
    } ∷ [];
  }),
)
its_body = refl

-- in words: happensAt(meets(x, x)) :- happensAt(start(within(x, z)=yes)), not holdsAt(within(y,
-- z)=yes).
its_words : said second_meeting
    ≡ Happens (atom (codes "meets") (term.Entity (codes "x") ∷ term.Entity (codes "x") ∷ []))
    (body.Happens true (event.Start (within (term.Entity (codes "x") ∷ term.Entity (codes "z")
    ∷ [])))
    ∷ body.Holds false (within (term.Entity (codes "y") ∷ term.Entity (codes "z") ∷ []))
    ∷ [])
its_words = refl

-- the number of an event is arithmetic on its arguments, and other arguments have none
second_enters_third : map (λ name. number_of domains name (1 ∷ 2 ∷ [])) names ≡ Some 5 ∷ Some 5
    ∷ None ∷ None ∷ []
second_enters_third = refl

abbrev program : Program
program = record {
  plan = plan;
  domains =
      domains;
  names = names;
  units = [];
  layers = [];
  events = 7;
}

-- the ground events by their numbers, as names and arguments
its_event_atoms : map {B = List ℕ × List ℕ} (λ event. (event.0.word, event.1)) (event_atoms program)
    ≡ (codes "enters", 0 ∷ 0 ∷ []) ∷ (codes "enters", 0 ∷ 1 ∷ []) ∷ (codes "enters", 0 ∷ 2 ∷ [])
    ∷ (codes "enters", 1 ∷ 0 ∷ []) ∷ (codes "enters", 1 ∷ 1 ∷ []) ∷ (codes "enters", 1 ∷ 2 ∷ [])
    ∷ (codes "bell", []) ∷ []
its_event_atoms = refl

-- ---- opening values: the first declared of those that are given, in whatever order

abbrev given : List ℕ → Instance
given value = record {
  clause = over (Initially
      (record {
        atom = atom (codes "within") (term.Entity (codes "x") ∷ term.Entity (codes "z")
            ∷ []);
        value = value;
      }));
  assignment = [];
}

first_declared : opening_of 2 (given (codes "yes") ∷ given (codes "no") ∷ []) ≡ Some 0
first_declared = refl

second_declared : opening_of 2 (given (codes "yes") ∷ []) ≡ Some 1
second_declared = refl

none_given : opening_of 2 [] ≡ None
none_given = refl

-- ---- layers: an input of layer 0, and names of layers 2, 1 and 2

abbrev unit_of : ℕ → PlainUnit
unit_of name = record { name = name; args = []; kind = Derived_is [] }

its_layers : layers_of (0 ∷ 2 ∷ 1 ∷ 2 ∷ []) (unit_of 1 ∷ unit_of 2 ∷ unit_of 2 ∷ unit_of 3 ∷ [])
    ≡ (1 ∷ 2 ∷ []) ∷ (0 ∷ 3 ∷ []) ∷ []
its_layers = refl

-- ---- what a description comes to

-- the same domains; input enters(ship, port). input bell. simple within(ship, port) [no, yes].
-- simple light [red, green]. static near(ship, ship, port) [true]. derived meets(ship, ship).
abbrev port_names : List Name
port_names =
    named (codes "enters") name_kind.Input (0 ∷ 1 ∷ []) []
    ∷ named (codes "bell") name_kind.Input [] []
    ∷ named (codes "within") name_kind.Simple (0 ∷ 1 ∷ []) (codes "no" ∷ codes "yes" ∷ [])
    ∷ named (codes "light") name_kind.Simple [] (codes "red" ∷ codes "green" ∷ [])
    ∷ named (codes "near") name_kind.Static (0 ∷ 0 ∷ 1 ∷ []) (codes "true" ∷ [])
    ∷ named (codes "meets") name_kind.Derived (0 ∷ 0 ∷ []) []
    ∷ []

abbrev s : Term
s = variable (codes "S")

abbrev t : Term
t = variable (codes "T")

abbrev p : Term
p = variable (codes "P")

abbrev q : Term
q = variable (codes "Q")

abbrev light : List ℕ → Fv
light value = record { atom = atom (codes "light") []; value = value }

abbrev enters : Term → Body
enters place = body.Happens true (event.Plain (atom (codes "enters") (s ∷ place ∷ [])))

abbrev meet : Atom
meet = atom (codes "meets") (s ∷ t ∷ [])

abbrev stated : PlainForm → PlainStatement
stated form = record { line = 1; form = form }

-- two assignments, one, one, six of which four are instances, eighteen of which twelve are, twelve
-- of which six are, four, and twelve
abbrev port_rules : List PlainStatement
port_rules =
    stated (Initially (within (s ∷ term.Entity (codes "z") ∷ [])))
    ∷ stated (Initially (light (codes "green")))
    ∷ stated (Initially (light (codes "red")))
    ∷ stated (Initiated (within (s ∷ p ∷ [])) (enters p ∷ body.Unequal (codes "S") (codes "P")
    ∷ []))
    ∷ stated (Terminated (within (s ∷ p ∷ [])) (enters q ∷ body.Unequal (codes "P") (codes "Q")
    ∷ []))
    ∷ stated (Happens meet (body.Happens true (event.Start (within (s ∷ p ∷ []))) ∷ body.Unequal
    (codes "S") (codes "T") ∷ body.Holds true (within (t ∷ p ∷ [])) ∷ []))
    ∷ stated (Initiated (light (codes "green")) (body.Happens true (event.Plain meet)
    ∷ body.Happens false (event.Plain (atom (codes "bell") [])) ∷ []))
    ∷ stated (HoldsFor (record {
      atom = atom (codes "near") (s ∷ t ∷ p ∷ []);
      value = codes "true";
    })
    (Intersect_of (more (Value_of (within (s ∷ p ∷ []))) (more (Value_of (within (t ∷ p ∷ [])))
    none))))
    ∷ []

abbrev port : PlainChecked
port = record {
  plan = plan;
  domains =
      domains;
  names = port_names;
  rules = port_rules;
}

its_units : unit_count domains port_names ≡ 23
its_units = refl

its_events : event_count domains port_names ≡ 7
its_events = refl

all_assignments : assignment_count (clauses port) ≡ 56
all_assignments = refl

-- instances of `initially` do not count
all_rules : rule_count (clauses port) ≡ 38
all_rules = refl

-- triggers count, \= does not
all_conditions : condition_count (clauses port) ≡ 60
all_conditions = refl

-- two rows for each unit of two values, and one for each derived event
its_rows : row_count domains port_names ≡ 30
its_rows = refl

port_fits : exceeded port ≡ None
port_fits = refl

-- ---- limits: at a limit nothing is refused, and the first that is exceeded is

none_exceeded : first_exceeded ((5, 5, limit.Units) ∷ (0, 5, limit.Events) ∷ []) ≡ None
none_exceeded = refl

second_exceeded : first_exceeded ((5, 5, limit.Units) ∷ (6, 5, limit.Events)
    ∷ (7, 5, limit.Assignments) ∷ []) ≡ Some limit.Events
second_exceeded = refl
