-- Public contracts speak by this: what a record says in a script of each shape, from the list of
-- its fields.
use Rattle.std.specs.Prelude.{ℕ, List, [], ◌∷◌, codes, Option, Some, None, option_and_then}
use Rattle.std.specs.Prelude.{option_map, if◌then◌else◌}
use Rattle.std.specs.Str.{bytes_eq}
use Rattle.ground_types.specs.declared.entries.Act.{Act}
use Rattle.ground_types.specs.declared.entries.Act.TheVariants.{Add, Revoke}
use Rattle.ground_types.specs.declared.entries.Query.TheVariants as query
use Rattle.ground_types.specs.declared.entries.Command.{Command}
use Rattle.ground_types.specs.declared.entries.Command.TheVariants as command
use Rattle.ground_types.specs.declared.program.Program.{Program}
use Rattle.ground_names.specs.Found.{event_named, unit_named, value_named}
use Rattle.stream_read.specs.declared.script.Shape.{Shape}
use Rattle.stream_read.specs.declared.script.Shape.TheVariants as shape
use Rattle.stream_read.specs.declared.records.Meaning.{Meaning}
use Rattle.stream_read.specs.declared.records.Meaning.TheVariants.{Means, Ignored, NoForm}
use Rattle.stream_read.specs.declared.verbs.Verb.{Verb}
use Rattle.stream_read.specs.declared.verbs.Verb.TheVariants.{Adds, Revokes, Seals, Asks, Waits}
use Rattle.stream_read.specs.declared.verbs.Verb.TheVariants.{Follows, Other}
use Rattle.stream_read.specs.Fields.{number_of, feeder_of}

-- the first field
abbrev pub verb_of : List ℕ → Verb
verb_of field =
    if bytes_eq field (codes "add") then Adds
    else if bytes_eq field (codes "revoke") then Revokes
    else if bytes_eq field (codes "seal") then Seals
    else if bytes_eq field (codes "ask") then Asks
    else if bytes_eq field (codes "wait") then Waits
    else if bytes_eq field (codes "after") then Follows
    else Other

abbrev pub or_no_form : Option Command → Meaning
or_no_form None = NoForm
or_no_form (Some c) = Means c

-- of a ground input event a command; other words are counted and ignored
abbrev pub fed : ℕ → Act → ℕ → Option ℕ → Meaning
fed feeder act at None = Ignored
fed feeder act at (Some event) = Means (command.Feed feeder act event at)

abbrev pub fed_at : Program → ℕ → Act → List ℕ → List (List ℕ) → Option ℕ → Meaning
fed_at program feeder act name args None = NoForm
fed_at program feeder act name args (Some at) =
    fed feeder act at (event_named (record { program = program; word = name; args = args }))

-- T,NAME,ARGS: the name is not empty
abbrev pub feed : Program → Act → ℕ → List (List ℕ) → Meaning
feed program act feeder (at ∷ [] ∷ args) = NoForm
feed program act feeder (at ∷ (c ∷ cs) ∷ args) = fed_at program feeder act (c ∷ cs) args
    (number_of at)
feed program act feeder fields = NoForm

abbrev pub feed_by : Program → Act → List (List ℕ) → Option ℕ → Meaning
feed_by program act fields None = NoForm
feed_by program act fields (Some feeder) = feed program act feeder fields

-- F,T,NAME,ARGS
abbrev pub feed_of_feeder : Program → Act → List (List ℕ) → Meaning
feed_of_feeder program act [] = NoForm
feed_of_feeder program act (feeder ∷ fields) = feed_by program act fields (feeder_of feeder)

abbrev pub seal : List (List ℕ) → Meaning
seal [] = Means command.Seal
seal fields = NoForm

-- at a point, for a value of what a name and its arguments name
abbrev pub holds_of : Program → List ℕ → List ℕ → List ℕ → List (List ℕ) → Option Command
holds_of program at value name args =
    option_and_then (λ point.
    option_and_then (λ unit.
    option_map (λ v. command.Ask (query.Holds unit v point)) (value_named program unit value))
    (unit_named (record { program = program; word = name; args = args })))
    (number_of at)

-- T,VALUE,NAME,ARGS, of a ground fluent-value
abbrev pub ask_holds : Program → List (List ℕ) → Option Command
ask_holds program (at ∷ value ∷ name ∷ args) = holds_of program at value name args
ask_holds program fields = None

abbrev pub ask_count : List (List ℕ) → Option Command
ask_count [] = Some (command.Ask query.Count)
ask_count fields = None

abbrev pub ask_block : List (List ℕ) → Option Command
ask_block (number ∷ []) = option_map (λ n. command.Ask (query.Block n)) (number_of number)
ask_block fields = None

-- holds,T,VALUE,NAME,ARGS or count or block,K
abbrev pub ask : Program → List (List ℕ) → Option Command
ask program [] = None
ask program (what ∷ fields) =
    if bytes_eq what (codes "holds") then ask_holds program fields
    else if bytes_eq what (codes "count") then ask_count fields
    else if bytes_eq what (codes "block") then ask_block fields
    else None

-- K
abbrev pub wait : List (List ℕ) → Option Command
wait (count ∷ []) = option_map command.Wait (number_of count)
wait fields = None

-- F,N
abbrev pub after : List (List ℕ) → Option Command
after (feeder ∷ count ∷ []) = option_and_then (λ f. option_map (command.After f) (number_of count))
    (feeder_of feeder)
after fields = None

-- the records of each shape
abbrev pub meaning_by : Program → Shape → Verb → List (List ℕ) → Meaning
meaning_by program shape.Merged Adds fields = feed_of_feeder program Add fields
meaning_by program shape.Merged Revokes fields = feed_of_feeder program Revoke fields
meaning_by program shape.Merged Seals fields = seal fields
meaning_by program shape.Merged Asks fields = or_no_form (ask program fields)
meaning_by program (shape.Feeder number) Adds fields = feed program Add number fields
meaning_by program (shape.Feeder number) Revokes fields = feed program Revoke number fields
meaning_by program (shape.Feeder number) Waits fields = or_no_form (wait fields)
meaning_by program shape.Clock Seals fields = seal fields
meaning_by program shape.Clock Follows fields = or_no_form (after fields)
meaning_by program shape.Reader Asks fields = or_no_form (ask program fields)
meaning_by program shape.Reader Waits fields = or_no_form (wait fields)
meaning_by program shape verb fields = NoForm

-- What a record says.
abbrev pub meaning_of : Program → Shape → List (List ℕ) → Meaning
meaning_of program shape [] = NoForm
meaning_of program shape (verb ∷ fields) = meaning_by program shape (verb_of verb) fields
