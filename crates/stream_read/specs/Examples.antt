-- Evidence that the definitions say what is meant: records of each shape, near misses, and short
-- scripts. Each equation holds by computation alone.
use Rattle.std.specs.Prelude.{◌≡◌, ℕ, List, [], ◌∷◌, map, codes, Ok, Err, refl}
use Rattle.csv.specs.Machine.{next_record}
use Rattle.csv.specs.Reading.{records_from, strip_bom}
use Rattle.ground_types.specs.Examples.{lamp}
use Rattle.ground_types.specs.declared.entries.Act.TheVariants.{Add, Revoke}
use Rattle.ground_types.specs.declared.entries.Query.TheVariants as query
use Rattle.ground_types.specs.declared.entries.Command.TheVariants as command
use Rattle.stream_read.specs.declared.records.Meaning.{Meaning}
use Rattle.stream_read.specs.declared.records.Meaning.TheVariants.{Means, Ignored, NoForm}
use Rattle.stream_read.specs.declared.script.Shape.TheVariants as shape
use Rattle.stream_read.specs.declared.script.StreamRefused.TheVariants as refused
use Rattle.stream_read.specs.Records.{meaning_of}
use Rattle.stream_read.specs.Scripts.{records_of, script_within}

-- the lamp has the input events up and down, and the fluent on with the value true
abbrev merged : List (List ℕ) → Meaning
merged fields = meaning_of lamp shape.Merged fields

an_add : merged (codes "add" ∷ codes "1" ∷ codes "07" ∷ codes "down" ∷ [])
    ≡ Means (command.Feed 1 Add 1 7)
an_add = refl

a_revoke : merged (codes "revoke" ∷ codes "8" ∷ codes "3" ∷ codes "up" ∷ [])
    ≡ Means (command.Feed 8 Revoke 0 3)
a_revoke = refl

a_question : merged (codes "ask" ∷ codes "holds" ∷ codes "8" ∷ codes "true" ∷ codes "on" ∷ [])
    ≡ Means (command.Ask (query.Holds 0 0 8))
a_question = refl

-- an unknown name, a further argument and the name of a fluent are ignored
ignored : map merged ((codes "add" ∷ codes "1" ∷ codes "3" ∷ codes "sideways" ∷ [])
    ∷ (codes "add" ∷ codes "1" ∷ codes "3" ∷ codes "up" ∷ [] ∷ [])
    ∷ (codes "add" ∷ codes "1" ∷ codes "3" ∷ codes "on" ∷ []) ∷ []) ≡ Ignored ∷ Ignored ∷ Ignored
    ∷ []
ignored = refl

-- no name, an empty one, a feeder that is none, a sign, a further field of a seal, and a value that
-- the fluent does not have
no_forms : map merged ((codes "add" ∷ codes "1" ∷ codes "3" ∷ []) ∷ (codes "add" ∷ codes "1"
    ∷ codes "3" ∷ [] ∷ []) ∷ (codes "add" ∷ codes "9" ∷ codes "3" ∷ codes "up" ∷ [])
    ∷ (codes "add" ∷ codes "1" ∷ codes "+3" ∷ codes "up" ∷ []) ∷ (codes "seal" ∷ [] ∷ [])
    ∷ (codes "ask" ∷ codes "holds" ∷ codes "8" ∷ codes "false" ∷ codes "on" ∷ []) ∷ [])
    ≡ NoForm ∷ NoForm ∷ NoForm ∷ NoForm ∷ NoForm ∷ NoForm ∷ []
no_forms = refl

-- sixteen digits are a number, seventeen are none
sixteen : merged (codes "add" ∷ codes "1" ∷ codes "9999999999999999" ∷ codes "up" ∷ [])
    ≡ Means (command.Feed 1 Add 0 9999999999999999)
sixteen = refl

seventeen : merged (codes "add" ∷ codes "1" ∷ codes "10000000000000000" ∷ codes "up" ∷ []) ≡ NoForm
seventeen = refl

-- each shape has records of its own
of_a_feeder : map (meaning_of lamp (shape.Feeder 3)) ((codes "add" ∷ codes "5" ∷ codes "up" ∷ [])
    ∷ (codes "wait" ∷ codes "1" ∷ []) ∷ (codes "seal" ∷ []) ∷ (codes "ask" ∷ codes "count" ∷ [])
    ∷ [])
    ≡ Means (command.Feed 3 Add 0 5) ∷ Means (command.Wait 1) ∷ NoForm ∷ NoForm ∷ []
of_a_feeder = refl

of_the_clock : map (meaning_of lamp shape.Clock) ((codes "seal" ∷ []) ∷ (codes "after" ∷ codes "2"
    ∷ codes "1" ∷ []) ∷ (codes "wait" ∷ codes "1" ∷ []) ∷ []) ≡ Means command.Seal
    ∷ Means (command.After 2 1) ∷ NoForm ∷ []
of_the_clock = refl

of_a_reader : map (meaning_of lamp shape.Reader) ((codes "ask" ∷ codes "block" ∷ codes "0" ∷ [])
    ∷ (codes "wait" ∷ codes "1" ∷ []) ∷ (codes "seal" ∷ []) ∷ [])
    ≡ Means (command.Ask (query.Block 0)) ∷ Means (command.Wait 1) ∷ NoForm ∷ []
of_a_reader = refl

-- ---- scripts of at most two records

abbrev up_at_3 : List (List ℕ)
up_at_3 = codes "add" ∷ codes "1" ∷ codes "3" ∷ codes "up" ∷ []

abbrev unknown : List (List ℕ)
unknown = codes "add" ∷ codes "1" ∷ codes "3" ∷ codes "sideways" ∷ []

abbrev cut : List (List ℕ)
cut = codes "add" ∷ codes "1" ∷ codes "7" ∷ []

-- an ignored record keeps its number
two_records : script_within 2 lamp shape.Merged (unknown ∷ up_at_3 ∷ [])
    ≡ Ok (record {
      commands = record { place = 2; command = command.Feed 1 Add 0 3 } ∷ [];
      ignored = 1;
    })
two_records = refl

the_second_is_bad : script_within 2 lamp shape.Merged (up_at_3 ∷ cut ∷ up_at_3 ∷ [])
    ≡ Err (refused.BadRecord 2)
the_second_is_bad = refl

-- ignored records count, and what stands past the last has no form to be asked for
the_third_is_too_many : script_within 2 lamp shape.Merged (up_at_3 ∷ unknown ∷ cut ∷ [])
    ≡ Err refused.TooMany
the_third_is_too_many = refl

-- ---- records of a text: quotes, a carriage return, an empty line, and no last line end
its_records : records_of (codes "add,1,\"3\",up\r\n\nseal") ≡ (codes "add" ∷ codes "1" ∷ codes "3"
    ∷ codes "up" ∷ []) ∷ (codes "seal" ∷ []) ∷ []
unfolding next_record records_from strip_bom
its_records = refl
