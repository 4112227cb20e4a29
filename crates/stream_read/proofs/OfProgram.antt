-- The commands of a script are of its program: feeds of a feeder of 1 to 8 and of one of its events,
-- questions for values of its fluents.
use Rattle.std.proofs.Common.{◌≡◌, ℕ, ◌+◌, ◌-◌, ◌<◌, ◌≤◌, nat_le, Bool, true, false, ◌&&◌, List, []}
use Rattle.std.proofs.Common.{◌∷◌, map, take, length, position, Option, Some, None, option_map}
use Rattle.std.proofs.Common.{IfSome, option_and_then, Result, Ok, Err, refl, sym, arith}
use Rattle.std.proofs.Common.{nat_lt, IfOk, subst, if◌then◌else◌, codes}
use Rattle.std.specs.Str.{bytes_eq}
use Rattle.std.proofs.lemmas.Bool.{and_parts, leb-true}
use Rattle.ground_types.specs.Sound.{IsSound}
use Rattle.ground_types.specs.declared.entries.Act.{Act}
use Rattle.ground_types.specs.declared.entries.Act.TheVariants.{Add, Revoke}
use Rattle.ground_types.specs.declared.entries.Query.TheVariants as query
use Rattle.ground_types.specs.declared.entries.Command.{Command}
use Rattle.ground_types.specs.declared.entries.Command.TheVariants as command
use Rattle.ground_types.specs.declared.program.Program.{Program}
use Rattle.ground_names.specs.Found.{unit_named, value_named}
use Rattle.ground_names.proofs.EventBounds.{event_below}
use Rattle.stream_read.proofs.NamedValues.{value_fits}
use Rattle.stream_read.specs.declared.records.Meaning.{Meaning}
use Rattle.stream_read.specs.declared.records.Meaning.TheVariants.{Means, Ignored, NoForm}
use Rattle.stream_read.specs.declared.script.Shape.{Shape}
use Rattle.stream_read.specs.declared.script.Shape.TheVariants as shape
use Rattle.stream_read.specs.declared.script.Script.{Script}
use Rattle.stream_read.specs.declared.script.StreamRefused.{StreamRefused}
use Rattle.stream_read.specs.declared.verbs.Verb.{Verb}
use Rattle.stream_read.specs.declared.verbs.Verb.TheVariants as verb
use Rattle.stream_read.specs.Fields.{number_of, feeder_of}
use Rattle.stream_read.specs.Records.{verb_of, or_no_form, fed, feed, feed_by, feed_of_feeder, seal}
use Rattle.stream_read.specs.Records.{fed_at, ask_holds, ask_count, ask_block, ask}
use Rattle.stream_read.specs.Records.{wait, after, meaning_by, meaning_of}
use Rattle.stream_read.specs.Scripts.{most, has_no_form, placed_from, answer_by, script_of, Answers}
use Rattle.stream_read.specs.Scripts.{IsShape, IsOfProgram, AreOfProgram}

module _ (program : Program) where
  -- what a record says is a command of the program, if it is one
  abbrev Says : Meaning → Type 0
  Says (Means c) = IsOfProgram program c
  Says Ignored = Unit {0}
  Says NoForm = Unit {0}

  -- ---- questions and waits

  no_feed : (o : Option Command) → IfSome o (IsOfProgram program) → Says (or_no_form o)
  no_feed None is = tt
  no_feed (Some c) is = is

  mapped : {X : Type 0} (make : X → Command) (o : Option X) → ((x : X)
      → IsOfProgram program (make x)) → IfSome (option_map make o) (IsOfProgram program)
  mapped make None each = tt
  mapped make (Some x) each = each x

  named : {X : Type 0} {P : X → Type 0} (make : X → Command) (o : Option X) → ((x : X) → P x
      → IsOfProgram program (make x)) → IfSome o P → IfSome (option_map make o)
      (IsOfProgram program)
  named make None each is = tt
  named make (Some x) each is = each x is

  chained : {X : Type 0} (next : X → Option Command) (o : Option X) → ((x : X)
      → IfSome (next x) (IsOfProgram program))
      → IfSome (option_and_then next o) (IsOfProgram program)
  chained next None each = tt
  chained next (Some x) each = each x

  chosen : (b : Bool) (one other : Option Command) → IfSome one (IsOfProgram program)
      → IfSome other (IsOfProgram program)
      → IfSome (if b then one else other) (IsOfProgram program)
  chosen true one other first second = first
  chosen false one other first second = second

  waits : (fields : List (List ℕ)) → IfSome (wait fields) (IsOfProgram program)
  waits [] = tt
  waits (count ∷ []) = mapped command.Wait (number_of count) (λ n. tt)
  waits (count ∷ more ∷ rest) = tt

  follows : (fields : List (List ℕ)) → IfSome (after fields) (IsOfProgram program)
  follows [] = tt
  follows (feeder ∷ []) = tt
  follows (feeder ∷ count ∷ []) = chained (λ f. option_map (command.After f) (number_of count))
      (feeder_of feeder) (λ f. mapped (command.After f) (number_of count) (λ n. tt))
  follows (feeder ∷ count ∷ more ∷ rest) = tt

  asks_count : (fields : List (List ℕ)) → IfSome (ask_count fields) (IsOfProgram program)
  asks_count [] = tt
  asks_count (more ∷ rest) = tt

  asks_block : (fields : List (List ℕ)) → IfSome (ask_block fields) (IsOfProgram program)
  asks_block [] = tt
  asks_block (number ∷ []) = mapped (λ n. command.Ask (query.Block n)) (number_of number) (λ n. tt)
  asks_block (number ∷ more ∷ rest) = tt

  seals : (fields : List (List ℕ)) → Says (seal fields)
  seals [] = tt
  seals (more ∷ rest) = tt

  module _ (sound : IsSound program) where
    -- ---- questions

    asks_holds : (fields : List (List ℕ)) → IfSome (ask_holds program fields)
        (IsOfProgram program)
    asks_holds [] = tt
    asks_holds (at ∷ []) = tt
    asks_holds (at ∷ value ∷ []) = tt
    asks_holds (at ∷ value ∷ name ∷ args) =
        chained (λ point. option_and_then (λ unit. option_map (λ v. command.Ask (query.Holds unit v
        point)) (value_named program unit value)) (unit_named (record {
          program = program;
          word = name;
          args = args;
        }))) (number_of at) (λ point. chained (λ unit. option_map (λ v. command.Ask
        (query.Holds unit v point)) (value_named program unit value)) (unit_named (record {
          program = program;
          word = name;
          args = args;
        })) (λ unit. named (λ v. command.Ask (query.Holds unit v point))
        (value_named program unit value) (λ v is. is) (value_fits program sound unit value)))

    asks : (fields : List (List ℕ)) → IfSome (ask program fields) (IsOfProgram program)
    asks [] = tt
    asks (what ∷ fields) =
        chosen (bytes_eq what (codes "holds")) _ _ (asks_holds fields)
        (chosen (bytes_eq what (codes "count")) _ _ (asks_count fields)
        (chosen (bytes_eq what (codes "block")) _ _ (asks_block fields) tt))

    -- ---- adds and revokes

    feeds_event : (feeder : ℕ) (act : Act) (at : ℕ) (event : Option ℕ) → (1 ≤ feeder)
        × (feeder ≤ 8) → IfSome event (λ e. e < program.events) → Says (fed feeder act at event)
    feeds_event feeder act at None few below = tt
    feeds_event feeder act at (Some event) few below = (few.0, few.1, below)

    feeds_at : (feeder : ℕ) (act : Act) (name : List ℕ) (args : List (List ℕ)) (at : Option ℕ)
        → (1 ≤ feeder) × (feeder ≤ 8) → Says (fed_at program feeder act name args at)
    feeds_at feeder act name args None few = tt
    feeds_at feeder act name args (Some at) few =
        feeds_event feeder act at _ few (event_below (record {
          program = program;
          word = name;
          args = args;
        }) sound)

    feeds : (act : Act) (feeder : ℕ) (fields : List (List ℕ)) → (1 ≤ feeder) × (feeder ≤ 8)
        → Says (feed program act feeder fields)
    feeds act feeder [] few = tt
    feeds act feeder (at ∷ []) few = tt
    feeds act feeder (at ∷ [] ∷ args) few = tt
    feeds act feeder (at ∷ (c ∷ cs) ∷ args) few = feeds_at feeder act (c ∷ cs) args (number_of at)
        few

    few_by : (c : ℕ) (b : Bool) → (nat_le 49 c && nat_le c 56) ≡ b
        → IfSome (if b then Some (c - 48) else None) (λ f. (1 ≤ f) × (f ≤ 8))
    few_by c true is =
        let both = and_parts (nat_le 49 c) (nat_le c 56) is in
        let low = leb-true 49 c both.0 in
        let high = leb-true c 56 both.1 in
        (omega (arith, low), omega (arith, high))
    few_by c false is = tt

    few_feeders : (text : List ℕ) → IfSome (feeder_of text) (λ f. (1 ≤ f) × (f ≤ 8))
    few_feeders [] = tt
    few_feeders (c ∷ []) = few_by c (nat_le 49 c && nat_le c 56) refl
    few_feeders (c ∷ d ∷ more) = tt

    feeds_by : (act : Act) (fields : List (List ℕ)) (feeder : Option ℕ)
        → IfSome feeder (λ f. (1 ≤ f) × (f ≤ 8)) → Says (feed_by program act fields feeder)
    feeds_by act fields None few = tt
    feeds_by act fields (Some feeder) few = feeds act feeder fields few

    feeds_merged : (act : Act) (fields : List (List ℕ)) → Says (feed_of_feeder program act fields)
    feeds_merged act [] = tt
    feeds_merged act (feeder ∷ fields) = feeds_by act fields (feeder_of feeder)
        (few_feeders feeder)

    -- ---- records

    says_by : (form : Shape) (what : Verb) (fields : List (List ℕ)) → IsShape form
        → Says (meaning_by program form what fields)
    says_by shape.Merged verb.Adds fields is = feeds_merged Add fields
    says_by shape.Merged verb.Revokes fields is = feeds_merged Revoke fields
    says_by shape.Merged verb.Seals fields is = seals fields
    says_by shape.Merged verb.Asks fields is = no_feed (ask program fields) (asks fields)
    says_by shape.Merged verb.Waits fields is = tt
    says_by shape.Merged verb.Follows fields is = tt
    says_by shape.Merged verb.Other fields is = tt
    says_by (shape.Feeder number) verb.Adds fields is = feeds Add number fields is
    says_by (shape.Feeder number) verb.Revokes fields is = feeds Revoke number fields is
    says_by (shape.Feeder number) verb.Seals fields is = tt
    says_by (shape.Feeder number) verb.Asks fields is = tt
    says_by (shape.Feeder number) verb.Waits fields is = no_feed (wait fields) (waits fields)
    says_by (shape.Feeder number) verb.Follows fields is = tt
    says_by (shape.Feeder number) verb.Other fields is = tt
    says_by shape.Clock verb.Adds fields is = tt
    says_by shape.Clock verb.Revokes fields is = tt
    says_by shape.Clock verb.Seals fields is = seals fields
    says_by shape.Clock verb.Asks fields is = tt
    says_by shape.Clock verb.Waits fields is = tt
    says_by shape.Clock verb.Follows fields is = no_feed (after fields) (follows fields)
    says_by shape.Clock verb.Other fields is = tt
    says_by shape.Reader verb.Adds fields is = tt
    says_by shape.Reader verb.Revokes fields is = tt
    says_by shape.Reader verb.Seals fields is = tt
    says_by shape.Reader verb.Asks fields is = no_feed (ask program fields) (asks fields)
    says_by shape.Reader verb.Waits fields is = no_feed (wait fields) (waits fields)
    says_by shape.Reader verb.Follows fields is = tt
    says_by shape.Reader verb.Other fields is = tt

    says : (form : Shape) (fields : List (List ℕ)) → IsShape form
        → Says (meaning_of program form fields)
    says form [] is = tt
    says form (what ∷ fields) is = says_by form (verb_of what) fields is

    -- ---- scripts

    module _ (form : Shape) (is : IsShape form) where
      placed_more : (number : ℕ) (meaning : Meaning) (rest : List Meaning) → Says meaning
          → ((n : ℕ) → AreOfProgram program (placed_from n rest))
          → AreOfProgram program (placed_from number (meaning ∷ rest))
      placed_more number (Means c) rest said more = (said, more (number + 1))
      placed_more number Ignored rest said more = more (number + 1)
      placed_more number NoForm rest said more = more (number + 1)

      are_placed : (number : ℕ) (rows : List (List (List ℕ)))
          → AreOfProgram program (placed_from number (map (meaning_of program form) rows))
      are_placed number [] = tt
      are_placed number (row ∷ rows) =
          placed_more number (meaning_of program form row) (map (meaning_of program form) rows)
          (says form row is) (λ n. are_placed n rows)

      answered : (found : Option ℕ) (more : Bool) (rows : List (List (List ℕ))) (script : Script)
          → Ok script ≡ answer_by found more (map (meaning_of program form) rows)
          → AreOfProgram program script.commands
      answered (Some place) more rows script e = absurd cc
      answered None true rows script e = absurd cc
      answered None false rows script e =
          subst (λ (r : Result Script StreamRefused). IfOk r (λ s. AreOfProgram program s.commands))
          (sym e) (are_placed 1 rows)

-- the commands of a script that was read are of its program
pub are_of_program : (program : Program) (form : Shape) (rows : List (List (List ℕ)))
    (result : Result Script StreamRefused) → IsSound program → IsShape form
    → Answers result (script_of program form rows)
    → IfOk result (λ script. AreOfProgram program script.commands)
are_of_program program form rows (Ok script) sound is exact =
    answered program sound form is
    (position has_no_form (map (meaning_of program form) (take most rows)))
    (nat_lt most (length rows)) (take most rows) script exact
are_of_program program form rows (Err refusal) sound is exact = tt
