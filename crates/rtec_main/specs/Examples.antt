-- No contract speaks by this: the first run, from its two texts to its report. Each equation holds
-- by computation alone.
use Rattle.std.specs.Fmt.{digits}
use Rattle.std.specs.Prelude.{◌≡◌, ℕ, true, List, [], ◌∷◌, codes, refl}
use Rattle.ground_types.specs.Examples.{lamp}
use Rattle.ground_types.specs.declared.entries.Act.TheVariants.{Add}
use Rattle.ground_types.specs.declared.entries.Command.{Command}
use Rattle.ground_types.specs.declared.entries.Command.TheVariants.{Feed, Seal}
use Rattle.rtec_main.specs.Described.{IsFaulty}
use Rattle.rule_forms.specs.Forms.{Input}
use Rattle.rule_read.specs.Bytes.{class_of}
use Rattle.rule_read.specs.Tokens.{cut}
use Rattle.rule_read.specs.Sentences.{sentences, first_bad}
use Rattle.rule_read.specs.Words.{keyword_of}
use Rattle.rule_read.specs.Reading.{bind, mapped, enclosed_at, row_at, args_at, decl_at, term_at}
use Rattle.rule_read.specs.Reading.{atom_at, fv_at, event_at, condition_at, unequal_at, body_at}
use Rattle.rule_read.specs.Reading.{number_at, valued_at, conditions_at, rule_at, form_at, form_of}
use Rattle.rule_read.specs.Whole.{forms_of}
use Rattle.run_status.specs.declared.status.DescFault.TheVariants as fault
use Rattle.rtec_main.specs.Script.{DoRun, exceeds_seals, windows_of_event}
use Rattle.text_pieces.specs.Lines.{text_of_lines}
use Rattle.report_text.specs.Report.{report_text}

abbrev lamp_text : List ℕ
lamp_text =
    text_of_lines
    (codes "window(10)." ∷ codes "step(5)." ∷ codes "from(0)." ∷ codes "input up."
    ∷ codes "input down." ∷ codes "simple on [true]."
    ∷ codes "initiatedAt(on=true) :- happensAt(up)."
    ∷ codes "terminatedAt(on=true) :- happensAt(down)." ∷ [])

-- a byte that is not permitted, a statement without its dot, and no plan
lamp_faulty : IsFaulty (codes "input up;") (fault.BadByte 1)
unfolding cut class_of sentences first_bad keyword_of bind mapped enclosed_at row_at args_at
    decl_at term_at atom_at fv_at event_at condition_at unequal_at body_at number_at valued_at
    conditions_at rule_at form_at form_of forms_of
lamp_faulty = refl

lamp_unformed : IsFaulty (codes "input up") (fault.BadStatement 1)
unfolding cut class_of sentences first_bad keyword_of bind mapped enclosed_at row_at args_at
    decl_at term_at atom_at fv_at event_at condition_at unequal_at body_at number_at valued_at
    conditions_at rule_at form_at form_of forms_of
lamp_unformed = refl

lamp_without_plan : IsFaulty (codes "input up.") fault.BadPlan
unfolding cut class_of sentences first_bad keyword_of bind mapped enclosed_at row_at args_at
    decl_at term_at atom_at fv_at event_at condition_at unequal_at body_at number_at valued_at
    conditions_at rule_at form_at form_of forms_of
lamp_without_plan = (
  record { line = 1; form = Input (record { name = codes "up"; args = [] }) }
      ∷ [],
  refl,
  refl,
)

abbrev first_commands : List Command
first_commands = Feed 1 Add 0 3 ∷ Feed 1 Add 1 7 ∷ Feed 1 Add 0 9 ∷ Seal ∷ []

they_run : DoRun lamp.plan first_commands
they_run = record { seals_few = refl; occurrences_few = refl }

first_report : report_text lamp first_commands 0
    ≡ text_of_lines
    (codes "1 add up 3 admitted" ∷ codes "1 add down 7 admitted" ∷ codes "1 add up 9 admitted"
    ∷ codes "query 0 window (0,10] evaluations 3" ∷ codes "  on=true (3,7] (9,open)"
    ∷ codes "ignored 0"
    ∷ codes
    "entries 3 admitted 3 delayed 0 already 0 revoked 0 delayed-revoked 0 unknown 0 forgotten 0"
    ∷ codes "queries 1 spans 2 points 0 evaluations 3" ∷ [])
unfolding digits
first_report = refl

empty_report : report_text lamp (Seal ∷ []) 0
    ≡ text_of_lines
    (codes "query 0 window (0,10] evaluations 0" ∷ codes "ignored 0"
    ∷ codes
    "entries 0 admitted 0 delayed 0 already 0 revoked 0 delayed-revoked 0 unknown 0 forgotten 0"
    ∷ codes "queries 1 spans 0 points 0 evaluations 0" ∷ [])
unfolding digits
empty_report = refl

-- no query is sealed twice
too_many_seals : exceeds_seals (record lamp.plan { queries = 1 }) (Seal ∷ Seal ∷ []) ≡ true
too_many_seals = refl

-- an event lies in two of the windows
two_windows : windows_of_event lamp.plan ≡ 2
two_windows = refl
