-- The ground input events of a sound program have numbers below their count.
use Rattle.std.proofs.Common.{◌≡◌, ℕ, ◌+◌, ◌<◌, ◌≤◌, Bool, true, false, List, [], ◌∷◌, length, find}
use Rattle.std.proofs.Common.{position, option_map, option_and_then, Option, Some, None, IfSome}
use Rattle.std.proofs.Common.{refl, sym, ◌∙◌, arith, if◌then◌else◌}
use Rattle.std.specs.Str.{bytes_eq}
use Rattle.std.proofs.lemmas.Bool.{eqb-true}
use Rattle.std.proofs.lemmas.List.Quantifiers.{position-Some}
use Rattle.ground_types.specs.Sound.{IsSound, is_input, arguments_of, are_numbered}
use Rattle.ground_types.specs.Words.{declaration}
use Rattle.ground_types.specs.declared.program.Name.{Name}
use Rattle.ground_types.specs.declared.program.Program.{Program}
use Rattle.ground_names.specs.Found.{Asked, entities_named, number_named, event_named}
use Rattle.ground_names.specs.Numbers.{number_of}
use Rattle.ground_names.proofs.SmallNumbers.{next_number}

module _ (program : Program) where
  abbrev count : Name → ℕ
  count name = length (arguments_of program.domains name)

  -- the events of a name end within the program's
  abbrev EndsWithin : Name → Type 0
  EndsWithin name = is_input name.kind ≡ true → name.first + count name ≤ program.events

  -- where names are numbered from here on, so many events are within the program's, and the events
  -- of a name among them are
  record AreWithin (event : ℕ) (test : Name → Bool) (names : List Name) : Type 0 where
    most : event ≤ program.events
    found : IfSome (find test names) EndsWithin

  one_of : (b : Bool) (name : Name) (rest : Option Name) → EndsWithin name
      → IfSome rest EndsWithin → IfSome (if b then Some name else rest) EndsWithin
  one_of true name rest here behind = here
  one_of false name rest here behind = behind

  within_from : (test : Name → Bool) (names : List Name) (event unit : ℕ)
      → are_numbered program event unit names ≡ true → AreWithin event test names
  within_from test [] event unit e =
      let same : event ≡ program.events = eqb-true event program.events e in
      record { most = omega (arith, same); found = tt }
  within_from test (name ∷ names) event unit e = by (is_input name.kind) refl (λ ev un.
      within_from test names ev un)
    where
      by : (b : Bool) → is_input name.kind ≡ b
          → ((ev un : ℕ) → are_numbered program ev un names ≡ true → AreWithin ev test names)
          → AreWithin event test (name ∷ names)
      by true k rest =
          let next = next_number program name names event unit e true k in
          let first : name.first ≡ event = next.0 in
          let more = rest (event + count name) unit next.1 in
          record {
            most = omega (arith, more.most);
            found = one_of (test name) name (find test names)
                (λ input. omega (arith, more.most, first)) more.found;
          }
      by false k rest =
          let next = next_number program name names event unit e false k in
          let more = rest event (unit + count name) next.1 in
          record {
            most = more.most;
            found = one_of (test name) name (find test names)
                (λ input. absurd (let no : true ≡ false = sym input ∙ k in cc)) more.found;
          }

  -- the number of arguments of a name whose events are within the program's
  number_below : (name : Name) (args : Option (List ℕ)) → name.first + count name ≤ program.events
      → IfSome (option_and_then (number_of program.domains name) args)
      (λ event. event < program.events)
  number_below name None within = tt
  number_below name (Some args) within = at_place (position (bytes_eq args)
      (arguments_of program.domains name)) refl
    where
      at_place : (o : Option ℕ) → position (bytes_eq args) (arguments_of program.domains name) ≡ o
          → IfSome (option_map (λ place. name.first + place) o) (λ event. event < program.events)
      at_place None is = tt
      at_place (Some place) is =
          omega (
            arith,
            within,
            (position-Some (bytes_eq args) (arguments_of program.domains name)
                place [] is).0,
          )

  named_below : (o : Option Name) (args : List (List ℕ)) → IfSome o EndsWithin
      → IfSome (number_named is_input program.domains o args) (λ event. event < program.events)
  named_below None args within = tt
  named_below (Some name) args within = by_kind (is_input name.kind) refl
    where
      by_kind : (b : Bool) → is_input name.kind ≡ b
          → IfSome (if b then option_and_then (number_of program.domains name)
          (entities_named program.domains name.args args) else None)
          (λ event. event < program.events)
      by_kind true is = number_below name (entities_named program.domains name.args args)
          (within is)
      by_kind false is = tt

-- an event that words name is one of the program's
pub event_below : (asked : Asked) → IsSound asked.program
    → IfSome (event_named asked) (λ event. event < asked.program.events)
event_below asked sound =
    named_below asked.program (declaration asked.program.names asked.word) asked.args
    (within_from asked.program (λ name. bytes_eq name.word asked.word) asked.program.names 0 0
    sound.numbering).found
