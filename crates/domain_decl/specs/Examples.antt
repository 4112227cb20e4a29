-- No contract speaks by this: small descriptions, computed. Each equation holds by computation
-- alone.
use Rattle.std.specs.Prelude.{◌≡◌, ℕ, zero, suc, true, false, List, [], ◌∷◌, ◌++◌, codes, replicate}
use Rattle.std.specs.Prelude.{Option, Some, None, Ok, Err, refl}
use Rattle.std.specs.List.{list_all}
use Rattle.ground_types.specs.declared.program.NameKind.TheVariants as name_kind
use Rattle.rule_forms.specs.declared.form.Decl.{Decl}
use Rattle.rule_forms.specs.declared.form.Term.{Term}
use Rattle.rule_forms.specs.declared.form.Term.TheVariants as term
use Rattle.rule_forms.specs.declared.form.Atom.{Atom}
use Rattle.rule_forms.specs.declared.form.Fv.{Fv}
use Rattle.rule_forms.specs.declared.form.EventText.TheVariants as event
use Rattle.rule_forms.specs.declared.form.Body.{Body}
use Rattle.rule_forms.specs.declared.form.Body.TheVariants as body
use Rattle.rule_forms.specs.Forms.{Expressions, Value_of, Union_of, none, more, PlainForm}
use Rattle.rule_forms.specs.Forms.{PlainStatement, Window, Step, From, Queries, Domain, Input}
use Rattle.rule_forms.specs.Forms.{Simple, Static, Derived, Initially, Initiated, Terminated}
use Rattle.rule_forms.specs.Forms.{Happens, HoldsFor}
use Rattle.decl_known.specs.declared.checked.DeclRefused.{DeclRefused}
use Rattle.decl_known.specs.declared.checked.DeclRefused.TheVariants as refused
use Rattle.decl_known.specs.Sound.{is_allowed, is_sound_domain, is_sound_name}
use Rattle.domain_decl.specs.Plans.{plan_of}
use Rattle.domain_decl.specs.Contents.{domains_of, names_of}
use Rattle.ground_types.specs.Words.{domain_words}
use Rattle.domain_decl.specs.Declarations.{declares_too_many, declaration_refusal}
use Rattle.decl_known.specs.Rules.{rule_refusal}
use Rattle.domain_decl.specs.Accepted.{checking}

abbrev on_line : ℕ → PlainForm → PlainStatement
on_line line form = record { line = line; form = form }

abbrev over : List ℕ → List (List ℕ) → Decl
over name args = record { name = name; args = args }

-- ---- the plan

abbrev ten_by_five : List PlainStatement
ten_by_five = on_line 1 (Window 10) ∷ on_line 2 (Step 5) ∷ []

pub plan_by_default : plan_of ten_by_five ≡ Some (record {
  window = 10;
  step = 5;
  from = 0;
  queries = 1024;
})
plan_by_default = refl

pub plan_in_any_order : plan_of (on_line 1 (Queries 3) ∷ on_line 2 (From 7) ∷ ten_by_five)
    ≡ Some (record { window = 10; step = 5; from = 7; queries = 3 })
plan_in_any_order = refl

pub no_plan_without_step : plan_of (on_line 1 (Window 10) ∷ []) ≡ None
no_plan_without_step = refl

pub no_plan_of_two_windows : plan_of (on_line 1 (Window 10) ∷ ten_by_five) ≡ None
no_plan_of_two_windows = refl

pub no_plan_of_two_steps : plan_of (on_line 1 (Step 5) ∷ ten_by_five) ≡ None
no_plan_of_two_steps = refl

pub no_plan_of_two_beginnings : plan_of (on_line 1 (From 0) ∷ on_line 2 (From 0) ∷ ten_by_five)
    ≡ None
no_plan_of_two_beginnings = refl

pub no_plan_of_two_counts : plan_of (on_line 1 (Queries 1) ∷ on_line 2 (Queries 1) ∷ ten_by_five)
    ≡ None
no_plan_of_two_counts = refl

-- each bound of the numbers, at it and past it: of step, window, from and queries
pub numbers_allowed :
    (is_allowed (record { window = 10; step = 1; from = 0; queries = 1 }) ≡ true)
    × (is_allowed (record { window = 10; step = 10; from = 0; queries = 1024 }) ≡ true)
    × (is_allowed (record { window = 1000000000000; step = 10; from = 0; queries = 1 }) ≡ true)
    × (is_allowed (record { window = 10; step = 10; from = 4000000000000000; queries = 1 }) ≡ true)
numbers_allowed = (refl, refl, refl, refl)

pub no_step : is_allowed (record { window = 10; step = 0; from = 0; queries = 1 }) ≡ false
no_step = refl

pub step_above_window : is_allowed (record { window = 10; step = 11; from = 0; queries = 1 })
    ≡ false
step_above_window = refl

pub long_window : is_allowed (record { window = 1000000000001; step = 10; from = 0; queries = 1 })
    ≡ false
long_window = refl

pub late_beginning : is_allowed (record {
  window = 10;
  step = 10;
  from = 4000000000000001;
  queries = 1;
}) ≡ false
late_beginning = refl

pub no_query : is_allowed (record { window = 10; step = 10; from = 0; queries = 0 }) ≡ false
no_query = refl

pub many_queries : is_allowed (record { window = 10; step = 10; from = 0; queries = 1025 }) ≡ false
many_queries = refl

-- numbers that are not allowed give no plan
pub no_plan_of_longer_step : plan_of (on_line 1 (Window 10) ∷ on_line 2 (Step 11) ∷ []) ≡ None
no_plan_of_longer_step = refl

-- ---- declarations

abbrev rooms : PlainForm
rooms = Domain (codes "room") (codes "hall" ∷ codes "attic" ∷ [])

abbrev push : PlainForm
push = Input (over (codes "push") (codes "room" ∷ []))

abbrev lamp : PlainForm
lamp = Simple (over (codes "lamp") (codes "room" ∷ [])) (codes "on" ∷ codes "off" ∷ [])

-- a domain may be declared behind what names it
abbrev house : List PlainStatement
house = on_line 3 push ∷ on_line 4 rooms ∷ on_line 5 lamp ∷ []

pub house_passes : declaration_refusal house ≡ None
house_passes = refl

pub names_of_house : names_of (domain_words (domains_of house)) house
    ≡ record {
      word = codes "push";
      kind = name_kind.Input;
      args = 0 ∷ [];
      values = [];
      first = 0;
      line = 3;
    }
    ∷ record {
      word = codes "lamp";
      kind = name_kind.Simple;
      args = 0 ∷ [];
      values =
          codes "on" ∷ codes "off" ∷ [];
      first = 0;
      line = 5;
    }
    ∷ []
names_of_house = refl

pub house_is_sound : (list_all is_sound_domain (domains_of house) ≡ true)
    × (list_all (is_sound_name 1) (names_of (domain_words (domains_of house)) house) ≡ true)
house_is_sound = (refl, refl)

pub argument_undeclared : declaration_refusal (on_line 3 push ∷ on_line 4 lamp ∷ [])
    ≡ Some (refused.Undeclared 3)
argument_undeclared = refl

pub name_twice : declaration_refusal (house ++ (on_line 6 (Domain (codes "push") []) ∷ []))
    ≡ Some (refused.Twice 6)
name_twice = refl

pub entity_twice : declaration_refusal (on_line 3
    (Domain (codes "room") (codes "hall" ∷ codes "attic" ∷ codes "hall" ∷ [])) ∷ [])
    ≡ Some (refused.Twice 3)
entity_twice = refl

pub value_twice : declaration_refusal (on_line 3 (Static (over (codes "dark") [])
    (codes "on" ∷ codes "on" ∷ [])) ∷ []) ≡ Some (refused.Twice 3)
value_twice = refl

pub domains_64 : declares_too_many (replicate 63 (on_line 3 rooms)) rooms ≡ false
domains_64 = refl

pub domains_65 : declares_too_many (replicate 64 (on_line 3 rooms)) rooms ≡ true
domains_65 = refl

pub three_arguments : declaration_refusal
    (on_line 3 (Derived (over (codes "push") (replicate 3 (codes "room")))) ∷ on_line 4 rooms ∷ [])
    ≡ None
three_arguments = refl

pub four_arguments : declaration_refusal
    (on_line 3 (Input (over (codes "push") (replicate 4 (codes "room")))) ∷ [])
    ≡ Some (refused.TooMany 3)
four_arguments = refl

pub values_65 : declaration_refusal (on_line 3 (Simple (over (codes "lamp") [])
    (replicate 65 (codes "on"))) ∷ []) ≡ Some (refused.TooMany 3)
values_65 = refl

pub values_64 : declaration_refusal (on_line 3 (Simple (over (codes "lamp") [])
    (replicate 64 (codes "on"))) ∷ []) ≡ Some (refused.Twice 3)
values_64 = refl

-- of two faults in one declaration what it has too many of comes first, then arguments, then words
-- that stand twice
pub too_many_first : declaration_refusal
    (on_line 3 (Simple (over (codes "lamp") (replicate 4 (codes "room"))) (codes "on" ∷ codes "on"
    ∷ [])) ∷ []) ≡ Some (refused.TooMany 3)
too_many_first = refl

pub arguments_second : declaration_refusal
    (on_line 3 (Simple (over (codes "lamp") (codes "room" ∷ [])) (codes "on" ∷ codes "on" ∷ []))
    ∷ []) ≡ Some (refused.Undeclared 3)
arguments_second = refl

-- and of two declarations the first
pub first_declaration : declaration_refusal (on_line 3 push ∷ on_line 4 push ∷ on_line 5
    (Input (over (codes "call") (replicate 4 (codes "lift")))) ∷ []) ≡ Some (refused.Undeclared 3)
first_declaration = refl

-- ---- rules

abbrev room : List (List ℕ)
room = codes "room" ∷ []

-- the house, with a lift and a name of each kind
abbrev building : List PlainStatement
building =
    house
    ++ (on_line 6 (Domain (codes "lift") (codes "left" ∷ []))
    ∷ on_line 7 (Input (over (codes "call") (codes "lift" ∷ [])))
    ∷ on_line 8 (Static (over (codes "dark") []) (codes "true" ∷ []))
    ∷ on_line 9 (Derived (over (codes "seen") room))
    ∷ [])

-- what is refused in a rule on line 10, and in one more
abbrev refusal_in : List PlainStatement → Option DeclRefused
refusal_in rules = rule_refusal (domains_of building)
    (names_of (domain_words (domains_of building)) building) rules

abbrev refusal_of : PlainForm → Option DeclRefused
refusal_of form = refusal_in (on_line 10 form ∷ [])

abbrev variable : List ℕ → Term
variable word = term.Variable word

abbrev entity : List ℕ → Term
entity word = term.Entity word

abbrev atom_of : List ℕ → List Term → Atom
atom_of name args = record { name = name; args = args }

abbrev value_of : List ℕ → List Term → List ℕ → Fv
value_of name args value = record { atom = atom_of name args; value = value }

abbrev lamp_on : Fv
lamp_on = value_of (codes "lamp") (variable (codes "R") ∷ []) (codes "on")

abbrev dark : Fv
dark = value_of (codes "dark") [] (codes "true")

abbrev happens : List ℕ → List Term → Body
happens name args = body.Happens true (event.Plain (atom_of name args))

abbrev pushed : Body
pushed = happens (codes "push") (variable (codes "R") ∷ [])

-- a rule of each kind that breaks none
pub rules_pass : refusal_in (
    on_line 10 (Initially (value_of (codes "lamp") (entity (codes "hall") ∷ []) (codes "off")))
    ∷ on_line 11 (Initiated lamp_on (pushed ∷ body.Holds false dark ∷ []))
    ∷ on_line 12 (Terminated lamp_on (pushed ∷ happens (codes "call") (variable (codes "L") ∷ [])
    ∷ body.Unequal (codes "R") (codes "L") ∷ []))
    ∷ on_line 13 (Happens (atom_of (codes "seen") (variable (codes "R") ∷ []))
    (body.Happens true (event.Start lamp_on) ∷ []))
    ∷ on_line 14 (HoldsFor dark (Union_of
    (more (Value_of (value_of (codes "lamp") (entity (codes "attic") ∷ []) (codes "off")))
    none)))
    ∷ []) ≡ None
rules_pass = refl

pub conditions_8 : refusal_of (Initiated lamp_on (replicate 8 pushed)) ≡ None
conditions_8 = refl

pub conditions_9 : refusal_of (Initiated lamp_on (replicate 9 pushed)) ≡ Some (refused.TooMany 10)
conditions_9 = refl

abbrev so_many : ℕ → Expressions
so_many zero = none
so_many (suc n) = more (Value_of dark) (so_many n)

pub leaves_64 : refusal_of (HoldsFor dark (Union_of (so_many 64))) ≡ None
leaves_64 = refl

pub leaves_65 : refusal_of (HoldsFor dark (Union_of (so_many 65))) ≡ Some (refused.TooMany 10)
leaves_65 = refl

pub negated_first : refusal_of (Initiated lamp_on
    (body.Happens false (event.Plain (atom_of (codes "push") (variable (codes "R") ∷ []))) ∷ pushed
    ∷ [])) ≡ Some (refused.NoTrigger 10)
negated_first = refl

pub fluent_first : refusal_of (Terminated lamp_on (body.Holds true dark ∷ pushed ∷ []))
    ≡ Some (refused.NoTrigger 10)
fluent_first = refl

pub comparison_first : refusal_of (Happens (atom_of (codes "seen") (variable (codes "R") ∷ []))
    (body.Unequal (codes "R") (codes "R") ∷ pushed ∷ [])) ≡ Some (refused.NoTrigger 10)
comparison_first = refl

pub undeclared_name : refusal_of (Initiated lamp_on (pushed ∷ happens (codes "rings") [] ∷ []))
    ≡ Some (refused.Undeclared 10)
undeclared_name = refl

-- heads: a simple fluent, a derived event, a static fluent
pub static_initiated : refusal_of (Initiated dark (pushed ∷ [])) ≡ Some (refused.WrongKind 10)
static_initiated = refl

pub input_defined : refusal_of (Happens (atom_of (codes "push") (variable (codes "R") ∷ []))
    (pushed ∷ [])) ≡ Some (refused.WrongKind 10)
input_defined = refl

pub simple_held : refusal_of (HoldsFor lamp_on (Value_of dark)) ≡ Some (refused.WrongKind 10)
simple_held = refl

-- conditions: an event, and a fluent
pub fluent_happens : refusal_of (Initiated lamp_on (happens (codes "dark") [] ∷ []))
    ≡ Some (refused.WrongKind 10)
fluent_happens = refl

pub event_holds : refusal_of (Initiated lamp_on
    (pushed ∷ body.Holds true (value_of (codes "seen") (variable (codes "R") ∷ []) (codes "on"))
    ∷ [])) ≡ Some (refused.WrongKind 10)
event_holds = refl

pub domain_happens : refusal_of (Initiated lamp_on (happens (codes "room") [] ∷ []))
    ≡ Some (refused.WrongKind 10)
domain_happens = refl

pub no_argument : refusal_of (Initiated lamp_on (happens (codes "push") [] ∷ []))
    ≡ Some (refused.Arity 10)
no_argument = refl

pub two_arguments : refusal_of (Initiated lamp_on (happens (codes "push") (variable (codes "R")
    ∷ variable (codes "R") ∷ []) ∷ [])) ≡ Some (refused.Arity 10)
two_arguments = refl

pub undeclared_value : refusal_of (Initially (value_of (codes "lamp") (entity (codes "hall") ∷ [])
    (codes "dim"))) ≡ Some (refused.Undeclared 10)
undeclared_value = refl

pub entity_of_other_domain : refusal_of (Initially (value_of (codes "lamp") (entity (codes "left")
    ∷ []) (codes "on"))) ≡ Some (refused.Undeclared 10)
entity_of_other_domain = refl

pub variable_of_two_domains : refusal_of
    (Initiated lamp_on (pushed ∷ happens (codes "call") (variable (codes "R") ∷ []) ∷ []))
    ≡ Some (refused.Clash 10)
variable_of_two_domains = refl

pub loose_in_leaf : refusal_of (HoldsFor dark (Value_of lamp_on)) ≡ Some (refused.Loose 10)
loose_in_leaf = refl

pub loose_in_comparison : refusal_of (Initiated lamp_on (pushed ∷ body.Unequal (codes "R")
    (codes "S") ∷ [])) ≡ Some (refused.Loose 10)
loose_in_comparison = refl

-- of two faults in one rule the first in the order of the tests
pub trigger_second : refusal_of (Initiated lamp_on (replicate 9 (body.Holds true dark)))
    ≡ Some (refused.TooMany 10)
trigger_second = refl

pub names_third : refusal_of (Initiated lamp_on
    (body.Holds true (value_of (codes "rings") [] (codes "true")) ∷ []))
    ≡ Some (refused.NoTrigger 10)
names_third = refl

pub kinds_fourth : refusal_of (Initiated dark (happens (codes "rings") [] ∷ []))
    ≡ Some (refused.Undeclared 10)
kinds_fourth = refl

pub arities_fifth : refusal_of (Initiated dark (happens (codes "push") [] ∷ []))
    ≡ Some (refused.WrongKind 10)
arities_fifth = refl

pub words_sixth : refusal_of (Initiated (value_of (codes "lamp") (entity (codes "left") ∷ [])
    (codes "dim")) (happens (codes "push") [] ∷ [])) ≡ Some (refused.Arity 10)
words_sixth = refl

pub clashes_seventh : refusal_of (Initiated (value_of (codes "lamp") (variable (codes "R") ∷ [])
    (codes "dim")) (happens (codes "call") (variable (codes "R") ∷ []) ∷ []))
    ≡ Some (refused.Undeclared 10)
clashes_seventh = refl

pub loose_last : refusal_of (Initiated lamp_on (happens (codes "call") (variable (codes "R") ∷ [])
    ∷ body.Unequal (codes "R") (codes "S") ∷ [])) ≡ Some (refused.Clash 10)
loose_last = refl

-- and of two rules the first
pub first_rule : refusal_in (on_line 10 (HoldsFor dark (Value_of lamp_on)) ∷ on_line 11
    (Initiated lamp_on (replicate 9 pushed)) ∷ []) ≡ Some (refused.Loose 10)
first_rule = refl

-- ---- the order of plan, declarations and rules

-- a push in a room turns its lamp to a value
abbrev turned : List ℕ → PlainForm
turned value = Initiated (value_of (codes "lamp") (variable (codes "R") ∷ []) value) (pushed ∷ [])

abbrev whole : List PlainStatement
whole = on_line 6 (turned (codes "on")) ∷ (house ++ ten_by_five)

pub whole_is_accepted : checking whole ≡ Ok (record {
  plan = record { window = 10; step = 5; from = 0; queries = 1024 };
  domains = domains_of house;
  names = names_of room house;
  rules = on_line 6 (turned (codes "on")) ∷ [];
})
whole_is_accepted = refl

-- the plan is tested before declarations, and these before rules
pub plan_first : checking (on_line 1 (turned (codes "dim")) ∷ on_line 2 lamp ∷ [])
    ≡ Err refused.BadPlan
plan_first = refl

pub declarations_second : checking (on_line 1 (turned (codes "dim")) ∷ on_line 2 lamp
    ∷ ten_by_five) ≡ Err (refused.Undeclared 2)
declarations_second = refl

pub rules_third : checking (on_line 6 (turned (codes "dim")) ∷ (house ++ ten_by_five))
    ≡ Err (refused.Undeclared 6)
rules_third = refl
