-- The numbered names of a checked description are declarations, and their numbers fit.
use Rattle.std.proofs.Common.{◌≡◌, ℕ, ◌+◌, ◌≤◌, ◌<◌, ◌^◌, Bool, true, false, ◌&&◌, nat_lt, List, []}
use Rattle.std.proofs.Common.{◌∷◌, ◌++◌, length, map, flat_map, None, refl, subst, ap, ◌∙◌, arith}
use Rattle.std.proofs.Common.{if◌then◌else◌}
use Rattle.std.proofs.lemmas.Bool.{lt-ltb, and_from}
use Rattle.std.proofs.lemmas.List.{length-map}
use Rattle.std.proofs.lemmas.List.Sums.{sum_by-cons}
use Rattle.std.specs.List.{list_all}
use Rattle.rt_base.specs.declared.limit.Limit.TheVariants as limit
use Rattle.ground_types.specs.Sound.{is_input, arguments_of, is_distinct}
use Rattle.ground_types.specs.declared.program.Domain.{Domain}
use Rattle.ground_types.specs.declared.program.Name.{Name}
use Rattle.decl_known.specs.declared.checked.Checked.{Checked}
use Rattle.decl_known.specs.Checked.{plain_checked}
use Rattle.ground_types.specs.Words.{domain_words, name_words}
use Rattle.decl_known.specs.Sound.{is_sound_name, IsSound}
use Rattle.ground_names.specs.Numbers.{numbered}
use Rattle.ground_names.specs.Counted.{has_small_numbers}
use Rattle.ground_rules.specs.NumberedDeclarations.{AreDeclarations}
use Rattle.ground_rules.specs.Grounded.{plain_unit, units_of, clauses, event_count, numbered_names}
use Rattle.ground_rules.specs.Assignments.{instances}
use Rattle.ground_types.specs.declared.program.Unit.{Unit}
use Rattle.ground_rules.proofs.RuleCounts.{length_from}
use Rattle.ground_rules.specs.Limits.{unit_count, first_exceeded, name_tests}
use Rattle.ground_rules.specs.Origins.{has_units_below}
use Rattle.ground_rules.proofs.KeptWords.{all_numbered, numbered_words}
use Rattle.ground_rules.proofs.Tested.{first_within}
use Rattle.ground_rules.proofs.UnitsBelow.{numbered_below}

module _ (domains : List Domain) where
  small_by : (input : Bool) (name : Name) (names : List Name) (event unit : ℕ)
      → event + ((if input then length (arguments_of domains name) else 0) + event_count domains
      names) ≤ 16777216
      → unit + ((if input then 0 else length (arguments_of domains name)) + unit_count domains
      names) ≤ 65536
      → ((e u : ℕ) → e + event_count domains names ≤ 16777216 → u + unit_count domains names
      ≤ 65536 → list_all (has_small_numbers domains) (numbered domains e u names) ≡ true)
      → (nat_lt ((if input then event else unit) + length (arguments_of domains name)) (2 ^ 32)
      && list_all (has_small_numbers domains)
      (numbered domains (if input then event + length (arguments_of domains name) else event)
      (if input then unit else unit + length (arguments_of domains name)) names)) ≡ true
  small_by true name names event unit events units rest =
      and_from (nat_lt (event + length (arguments_of domains name)) (2 ^ 32))
      (list_all (has_small_numbers domains)
      (numbered domains (event + length (arguments_of domains name)) unit names))
      (lt-ltb (event + length (arguments_of domains name)) (2 ^ 32) (omega (arith, events)))
      (rest (event + length (arguments_of domains name)) unit (omega (arith, events))
      (omega (arith, units)))
  small_by false name names event unit events units rest =
      and_from (nat_lt (unit + length (arguments_of domains name)) (2 ^ 32))
      (list_all (has_small_numbers domains)
      (numbered domains event (unit + length (arguments_of domains name)) names))
      (lt-ltb (unit + length (arguments_of domains name)) (2 ^ 32) (omega (arith, units)))
      (rest event (unit + length (arguments_of domains name)) (omega (arith, events))
      (omega (arith, units)))

  small_numbers : (event unit : ℕ) (names : List Name) → event + event_count domains names
      ≤ 16777216 → unit + unit_count domains names ≤ 65536
      → list_all (has_small_numbers domains) (numbered domains event unit names) ≡ true
  small_numbers event unit [] events units = refl
  small_numbers event unit (name ∷ names) events units =
      small_by (is_input name.kind) name names event unit
      (subst (λ n. event + n ≤ 16777216) (sum_by-cons (λ n. if is_input n.kind
      then length (arguments_of domains n) else 0) name names) events)
      (subst (λ n. unit + n ≤ 65536) (sum_by-cons (λ n. if is_input n.kind then 0
      else length (arguments_of domains n)) name names) units)
      (λ e u he hu. small_numbers e u names he hu)

module _ (checked : Checked) (sound : IsSound checked)
    (few : first_exceeded (name_tests checked.domains checked.names) ≡ None) where
  abbrev names : List Name
  names = numbered_names (plain_checked checked)

  pub units_few : unit_count checked.domains checked.names ≤ 65536
  units_few = (first_within (unit_count checked.domains checked.names) 65536 limit.Units
      ((event_count checked.domains checked.names, 16777216, limit.Events) ∷ []) few).0

  pub events_few : event_count checked.domains checked.names ≤ 16777216
  events_few =
      (first_within (event_count checked.domains checked.names) 16777216 limit.Events []
      (first_within (unit_count checked.domains checked.names) 65536 limit.Units
      ((event_count checked.domains checked.names, 16777216, limit.Events) ∷ []) few).1).0

  pub distinct : is_distinct (domain_words checked.domains ++ name_words names) ≡ true
  distinct = ap (λ words. is_distinct (domain_words checked.domains ++ words))
      (numbered_words checked.domains checked.names 0 0) ∙ sound.distinct

  pub small : list_all (has_small_numbers checked.domains) names ≡ true
  small = small_numbers checked.domains 0 0 checked.names (omega (arith, events_few))
      (omega (arith, units_few))

  pub declarations : AreDeclarations checked.domains names
  declarations = record {
    sound_domains = sound.domains;
    sound_names = all_numbered checked.domains (is_sound_name (length checked.domains)) (λ n name.
        refl) checked.names 0 0 ∙ sound.names;
    small_numbers = small;
  }

  pub below : list_all (has_units_below checked.domains (unit_count checked.domains checked.names))
      names ≡ true
  below = numbered_below checked.domains (unit_count checked.domains checked.names) 0 0
      checked.names (omega arith)

  pub names_few : length names < 2 ^ 32
  names_few =
      omega (
        arith,
        length-map names (λ name. name.word),
        ap length (numbered_words checked.domains checked.names 0 0),
        length-map checked.names (λ name. name.word),
        sound.names_few,
      )

  pub length_units : (units : List Unit) → map plain_unit units ≡ units_of checked.domains names
      (flat_map instances (clauses (plain_checked checked))) → length units ≤ 65536
  length_units units are =
      omega (
        arith,
        length-map units plain_unit,
        ap length are,
        length_from checked.domains (flat_map instances (clauses (plain_checked checked)))
            checked.names 0 0 0,
        units_few,
      )
