-- No contract speaks by this: evidence that the ground text is what is meant, descriptions, what
-- they declare and their ground text, written by hand. Each equation holds by computation alone.
use Rattle.std.specs.Prelude.{◌≡◌, ℕ, true, List, [], ◌∷◌, codes, Ok, refl}
use Rattle.std.specs.Fmt.{digits}
use Rattle.ground_types.specs.declared.plan.Plan.{Plan}
use Rattle.ground_types.specs.declared.program.Name.{Name}
use Rattle.ground_types.specs.declared.program.NameKind.{NameKind}
use Rattle.ground_types.specs.declared.program.NameKind.TheVariants as name_kind
use Rattle.rule_forms.specs.declared.form.Decl.{Decl}
use Rattle.rule_forms.specs.declared.form.Term.{Term}
use Rattle.rule_forms.specs.declared.form.Term.TheVariants as term
use Rattle.rule_forms.specs.declared.form.Fv.{Fv}
use Rattle.rule_forms.specs.declared.form.EventText.TheVariants as event
use Rattle.rule_forms.specs.declared.form.Body.{Body}
use Rattle.rule_forms.specs.declared.form.Body.TheVariants as body
use Rattle.rule_read.specs.Canonical.{line_of}
use Rattle.rule_forms.specs.Forms.{PlainForm, PlainStatement, Value_of, Union_of, none, more}
use Rattle.rule_forms.specs.Forms.{Window, Step, From, Domain, Input, Simple, Static, Initially}
use Rattle.rule_forms.specs.Forms.{Initiated, Terminated, HoldsFor}
use Rattle.decl_known.specs.Checked.{PlainChecked}
use Rattle.domain_decl.specs.Accepted.{checking}
use Rattle.ground_text.specs.GroundText.{ground_text}
use Rattle.text_pieces.specs.Lines.{text_of_lines}

abbrev on_line : ℕ → PlainForm → PlainStatement
on_line line form = record { line = line; form = form }

abbrev over : List ℕ → List (List ℕ) → Decl
over name args = record { name = name; args = args }

abbrev fluent : List ℕ → List Term → List ℕ → Fv
fluent name args value = record { atom = record { name = name; args = args }; value = value }

abbrev happens : List ℕ → List Term → Body
happens name args = body.Happens true (event.Plain (record { name = name; args = args }))

abbrev variable : List ℕ → Term
variable word = term.Variable word

abbrev named : List ℕ → NameKind → List ℕ → List (List ℕ) → ℕ → Name
named word kind args values line = record {
  word = word;
  kind = kind;
  args = args;
  values = values;
  first = 0;
  line = line;
}

abbrev plan : Plan
plan = record { window = 10; step = 5; from = 0; queries = 1024 }

-- ---- no variables

abbrev on : Fv
on = fluent (codes "on") [] (codes "true")

abbrev lamp : List PlainStatement
lamp =
    on_line 1 (Window 10) ∷ on_line 2 (Step 5) ∷ on_line 3 (From 0)
    ∷ on_line 4 (Input (over (codes "up") []))
    ∷ on_line 5 (Input (over (codes "down") []))
    ∷ on_line 6 (Simple (over (codes "on") []) (codes "true" ∷ []))
    ∷ on_line 7 (Initiated on (happens (codes "up") [] ∷ []))
    ∷ on_line 8 (Terminated on (happens (codes "down") [] ∷ []))
    ∷ []

abbrev lamp_checked : PlainChecked
lamp_checked = record {
  plan = plan;
  domains = [];
  names =
      named (codes "up") name_kind.Input [] [] 4
      ∷ named (codes "down") name_kind.Input [] [] 5
      ∷ named (codes "on") name_kind.Simple [] (codes "true" ∷ []) 6
      ∷ [];
  rules =
      on_line 7 (Initiated on (happens (codes "up") [] ∷ []))
      ∷ on_line 8 (Terminated on (happens (codes "down") [] ∷ []))
      ∷ [];
}

lamp_declares : checking lamp ≡ Ok lamp_checked
lamp_declares = refl

lamp_is : ground_text lamp lamp_checked (0 ∷ 0 ∷ 1 ∷ [])
    ≡ text_of_lines
    (codes "window(10)." ∷ codes "step(5)." ∷ codes "from(0)." ∷ codes "input up."
    ∷ codes "input down." ∷ codes "simple on [true]."
    ∷ codes "initiatedAt(on=true) :- happensAt(up)."
    ∷ codes "terminatedAt(on=true) :- happensAt(down)."
    ∷ codes "events 2 units 1 rules 2 layers 1" ∷ codes "layer 1 on"
    ∷ codes "  initiatedAt(on=true) :- happensAt(up)."
    ∷ codes "  terminatedAt(on=true) :- happensAt(down)." ∷ [])
unfolding line_of digits
lamp_is = refl

-- ---- a rule without instances: the one entity differs from no other

abbrev met : Fv
met = fluent (codes "met") (variable (codes "X") ∷ variable (codes "Y") ∷ []) (codes "true")

abbrev meeting_rule : PlainStatement
meeting_rule = on_line 6 (Initiated met (happens (codes "near") (variable (codes "X") ∷ variable
    (codes "Y") ∷ []) ∷ body.Unequal (codes "X") (codes "Y") ∷ []))

abbrev meeting : List PlainStatement
meeting =
    on_line 1 (Window 10) ∷ on_line 2 (Step 5)
    ∷ on_line 3 (Domain (codes "v") (codes "x" ∷ []))
    ∷ on_line 4 (Input (over (codes "near") (codes "v" ∷ codes "v" ∷ [])))
    ∷ on_line 5 (Simple (over (codes "met") (codes "v" ∷ codes "v" ∷ [])) (codes "true" ∷ []))
    ∷ meeting_rule
    ∷ []

abbrev meeting_checked : PlainChecked
meeting_checked = record {
  plan = plan;
  domains = record { word = codes "v"; entities = codes "x" ∷ [] } ∷ [];
  names =
      named (codes "near") name_kind.Input (0 ∷ 0 ∷ []) [] 4
      ∷ named (codes "met") name_kind.Simple (0 ∷ 0 ∷ []) (codes "true" ∷ []) 5
      ∷ [];
  rules = meeting_rule ∷ [];
}

meeting_declares : checking meeting ≡ Ok meeting_checked
meeting_declares = refl

meeting_is : ground_text meeting meeting_checked (0 ∷ 1 ∷ [])
    ≡ text_of_lines
    (codes "window(10)." ∷ codes "step(5)." ∷ codes "domain v [x]." ∷ codes "input near(v, v)."
    ∷ codes "simple met(v, v) [true]."
    ∷ codes "initiatedAt(met(X, Y)=true) :- happensAt(near(X, Y)), X \\= Y."
    ∷ codes "events 1 units 1 rules 0 layers 1" ∷ codes "layer 1 met(x,x)" ∷ [])
unfolding line_of digits
meeting_is = refl

-- ---- initial values are said once, layers follow each other, and entities stand in place of
-- variables

abbrev seen : List ℕ → Fv
seen value = fluent (codes "seen") (variable (codes "X") ∷ []) value

abbrev seeing_rules : List PlainStatement
seeing_rules =
    on_line 7 (HoldsFor (fluent (codes "found") [] (codes "true"))
    (Union_of (more (Value_of (fluent (codes "seen") (term.Entity (codes "y") ∷ []) (codes "yes")))
    none)))
    ∷ on_line 8 (Initially (seen (codes "no")))
    ∷ on_line 9 (Initially (fluent (codes "seen") (term.Entity (codes "x") ∷ []) (codes "yes")))
    ∷ on_line 10 (Initiated (seen (codes "yes")) (happens (codes "sight") (variable (codes "X")
    ∷ []) ∷ []))
    ∷ []

abbrev seeing : List PlainStatement
seeing =
    on_line 1 (Window 10) ∷ on_line 2 (Step 5)
    ∷ on_line 3 (Domain (codes "v") (codes "x" ∷ codes "y" ∷ []))
    ∷ on_line 4 (Static (over (codes "found") []) (codes "true" ∷ []))
    ∷ on_line 5 (Simple (over (codes "seen") (codes "v" ∷ [])) (codes "yes" ∷ codes "no" ∷ []))
    ∷ on_line 6 (Input (over (codes "sight") (codes "v" ∷ [])))
    ∷ seeing_rules

abbrev seeing_checked : PlainChecked
seeing_checked = record {
  plan = plan;
  domains = record { word = codes "v"; entities = codes "x" ∷ codes "y" ∷ [] } ∷ [];
  names =
      named (codes "found") name_kind.Static [] (codes "true" ∷ []) 4
      ∷ named (codes "seen") name_kind.Simple (0 ∷ []) (codes "yes" ∷ codes "no" ∷ []) 5
      ∷ named (codes "sight") name_kind.Input (0 ∷ []) [] 6
      ∷ [];
  rules = seeing_rules;
}

seeing_declares : checking seeing ≡ Ok seeing_checked
seeing_declares = refl

seeing_is : ground_text seeing seeing_checked (2 ∷ 1 ∷ 0 ∷ [])
    ≡ text_of_lines
    (codes "window(10)." ∷ codes "step(5)." ∷ codes "domain v [x, y]."
    ∷ codes "static found [true]." ∷ codes "simple seen(v) [yes, no]."
    ∷ codes "input sight(v)." ∷ codes "holdsFor(found=true) :- union_all([seen(y)=yes])."
    ∷ codes "initially(seen(X)=no)."
    ∷ codes "initially(seen(x)=yes)." ∷ codes "initiatedAt(seen(X)=yes) :- happensAt(sight(X))."
    ∷ codes "events 2 units 3 rules 3 layers 2"
    ∷ codes "layer 1 seen(x)" ∷ codes "  initially(seen(x)=yes)."
    ∷ codes "  initiatedAt(seen(x)=yes) :- happensAt(sight(x))."
    ∷ codes "layer 1 seen(y)" ∷ codes "  initially(seen(y)=no)."
    ∷ codes "  initiatedAt(seen(y)=yes) :- happensAt(sight(y))."
    ∷ codes "layer 2 found" ∷ codes "  holdsFor(found=true) :- union_all([seen(y)=yes])." ∷ [])
unfolding line_of digits
seeing_is = refl
