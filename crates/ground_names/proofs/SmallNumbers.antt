-- The ground events and units of each name of a sound program have numbers below 2^32.
use Rattle.std.proofs.Common.{◌≡◌, ℕ, ◌+◌, ◌^◌, ◌<◌, ◌≤◌, Bool, true, false, ◌&&◌, ◌==◌, List, []}
use Rattle.std.proofs.Common.{◌∷◌, ◌++◌, length, map, refl, sym, ap, ap₂, ◌∙◌, arith, if◌then◌else◌}
use Rattle.std.proofs.Common.{length-append}
use Rattle.std.specs.List.{list_all, enumerate_from}
use Rattle.std.proofs.lemmas.List.{length-map}
use Rattle.std.proofs.lemmas.Bool.{lt-ltb, eqb-true, and_parts}
use Rattle.ground_types.specs.Sound.{IsSound, is_input, arguments_of, unit_heads, are_numbered}
use Rattle.ground_types.specs.declared.program.Name.{Name}
use Rattle.ground_types.specs.declared.program.Program.{Program}
use Rattle.ground_names.specs.Counted.{has_small_numbers}

-- a name has the next number, of an event or of a unit, and the names behind it go on
pub next_number : (program : Program) (name : Name) (names : List Name) (event unit : ℕ)
    → are_numbered program event unit (name ∷ names) ≡ true → (b : Bool) → is_input name.kind ≡ b
    → (name.first ≡ (if b then event else unit))
    × (are_numbered program (if b then event + length (arguments_of program.domains name)
    else event) (if b then unit else unit + length (arguments_of program.domains name)) names
    ≡ true)
next_number program name names event unit e b kind = by b (ap numbering (sym kind) ∙ e)
  where
    count : ℕ
    count = length (arguments_of program.domains name)

    numbering : Bool → Bool
    numbering b = if b then (name.first == event) && are_numbered program (event + count) unit
        names else ((name.first == unit) && are_numbered program event (unit + count) names)

    by : (b : Bool) → numbering b ≡ true → (name.first ≡ (if b then event else unit))
        × (are_numbered program (if b then event + count else event)
        (if b then unit else unit + count) names ≡ true)
    by true e =
        let parts = and_parts (name.first == event) (are_numbered program (event + count) unit
        names) e in
        (eqb-true name.first event parts.0, parts.1)
    by false e =
        let parts = and_parts (name.first == unit) (are_numbered program event (unit + count)
        names) e in
        (eqb-true name.first unit parts.0, parts.1)

module _ (program : Program) (events : program.events < 2 ^ 32) where
  -- where all names are numbered, the events so far are at most all
  record AreSmall (event : ℕ) (names : List Name) : Type 0 where
    most : event ≤ program.events
    all : list_all (has_small_numbers program.domains) names ≡ true

  small_from : (names : List Name) (start event unit : ℕ)
      → unit + length (unit_heads program (enumerate_from start names)) < 2 ^ 32
      → are_numbered program event unit names ≡ true → AreSmall event names
  small_from [] start event unit few e =
      let same : event ≡ program.events = eqb-true event program.events e in
      record { most = omega (arith, same); all = refl }
  small_from (name ∷ names) start event unit few e = by (is_input name.kind) refl (λ ev un.
      small_from names (start + 1) ev un)
    where
      count : ℕ
      count = length (arguments_of program.domains name)

      heads : List (ℕ × List ℕ)
      heads = map (λ args. (start, args)) (arguments_of program.domains name)

      others : List (ℕ × List ℕ)
      others = unit_heads program (enumerate_from (start + 1) names)

      by : (b : Bool) → is_input name.kind ≡ b
          → ((ev un : ℕ) → un + length others < 2 ^ 32 → are_numbered program ev un names ≡ true
          → AreSmall ev names)
          → AreSmall event (name ∷ names)
      by true k rest =
          let next = next_number program name names event unit e true k in
          let these : length ((if is_input name.kind then [] else heads) ++ others)
          ≡ length others = ap (λ b. length ((if b then [] else heads) ++ others)) k in
          let more = rest (event + count) unit (omega (arith, few, these)) next.1 in
          record {
            most = omega (arith, more.most);
            all = ap₂ ◌&&◌ (lt-ltb (name.first + count) (2 ^ 32)
                (omega (arith, more.most, events, next.0))) more.all;
          }
      by false k rest =
          let next = next_number program name names event unit e false k in
          let these : length ((if is_input name.kind then [] else heads) ++ others)
          ≡ count + length others =
          ap (λ b. length ((if b then [] else heads) ++ others)) k ∙ length-append heads others
          ∙ ap (λ n. n + length others) (length-map (arguments_of program.domains name)
          (λ args. (start, args))) in
          let more = rest event (unit + count) (omega (arith, few, these)) next.1 in
          record {
            most = more.most;
            all = ap₂ ◌&&◌ (lt-ltb (name.first + count) (2 ^ 32)
                (omega (arith, few, these, next.0))) more.all;
          }

pub sound_small : (program : Program) → IsSound program
    → list_all (has_small_numbers program.domains) program.names ≡ true
sound_small program sound =
    let units : length program.units ≡ length (unit_heads program (enumerate_from 0 program.names))
    =
    sym (length-map program.units (λ unit. (unit.name, unit.args))) ∙ ap length sound.unit_order in
    let few : 0 + length (unit_heads program (enumerate_from 0 program.names)) < 2 ^ 32 =
    omega (arith, units, sound.units_most) in
    let events : program.events < 2 ^ 32 = omega (arith, sound.events_most) in
    (small_from program events program.names 0 0 0 few sound.numbering).all
