-- Names are numbered one after the other.
use Rattle.std.proofs.Common.{◌≡◌, ℕ, ◌+◌, ◌≤◌, Bool, true, false, List, [], ◌∷◌, ◌++◌, length, sym}
use Rattle.std.proofs.Common.{◌∙◌, ap, arith, append-nil, if◌then◌else◌}
use Rattle.std.proofs.lemmas.List.{append_assoc}
use Rattle.std.proofs.lemmas.List.Sums.{sum_by-cons}
use Rattle.ground_types.specs.Sound.{is_input, arguments_of}
use Rattle.ground_types.specs.declared.program.Domain.{Domain}
use Rattle.ground_types.specs.declared.program.Name.{Name}
use Rattle.ground_names.specs.Numbers.{with_first, numbered}
use Rattle.ground_rules.specs.Grounded.{event_count}
use Rattle.ground_rules.specs.Limits.{unit_count}

-- so many names are numbered, and so many events and units have numbers
pub record AreNumbered (domains : List Domain) (names left : List Name) (made : List Name)
    (event unit : ℕ) : Type 0 where
  pub go_on : made ++ numbered domains event unit left ≡ numbered domains 0 0 names
  pub events : event + event_count domains left ≡ event_count domains names
  pub units : unit + unit_count domains left ≡ unit_count domains names

pub all_numbered : (domains : List Domain) (names made : List Name) (event unit : ℕ)
    → AreNumbered domains names [] made event unit → made ≡ numbered domains 0 0 names
all_numbered domains names made event unit at = sym (append-nil made) ∙ at.go_on

module _ (domains : List Domain) (names : List Name) (name : Name) (left made : List Name)
    (event unit : ℕ) (at : AreNumbered domains names (name ∷ left) made event unit) where
  abbrev count : ℕ
  count = length (arguments_of domains name)

  abbrev here_events : ℕ
  here_events = if is_input name.kind then count else 0

  abbrev here_units : ℕ
  here_units = if is_input name.kind then 0 else count

  events_go_on : event + (here_events + event_count domains left) ≡ event_count domains names
  events_go_on = ap (λ n. event + n) (sym (sum_by-cons (λ name. if is_input name.kind
      then length (arguments_of domains name) else 0) name left)) ∙ at.events

  units_go_on : unit + (here_units + unit_count domains left) ≡ unit_count domains names
  units_go_on = ap (λ n. unit + n) (sym (sum_by-cons (λ name. if is_input name.kind then 0
      else length (arguments_of domains name)) name left)) ∙ at.units

  one_of_both : (input : Bool) → event + ((if input then count else 0) + event_count domains left)
      ≡ event_count domains names
      → unit + ((if input then 0 else count) + unit_count domains left) ≡ unit_count domains names
      → count ≤ event_count domains names + unit_count domains names
  one_of_both true e u = omega (arith, e)
  one_of_both false e u = omega (arith, u)

  pub few : count ≤ event_count domains names + unit_count domains names
  few = one_of_both (is_input name.kind) events_go_on units_go_on

  pub events_few : event ≤ event_count domains names
  events_few = omega (arith, events_go_on)

  pub units_few : unit ≤ unit_count domains names
  units_few = omega (arith, units_go_on)

  abbrev firsts : Bool → ℕ
  firsts input = if input then event else unit

  abbrev events_after : Bool → ℕ
  events_after input = if input then event + count else event

  abbrev units_after : Bool → ℕ
  units_after input = if input then unit else unit + count

  event_counts : (input : Bool) → event + ((if input then count else 0) + event_count domains left)
      ≡ event_count domains names
      → events_after input + event_count domains left ≡ event_count domains names
  event_counts true e = omega (arith, e)
  event_counts false e = omega (arith, e)

  unit_counts : (input : Bool) → unit + ((if input then 0 else count) + unit_count domains left)
      ≡ unit_count domains names
      → units_after input + unit_count domains left ≡ unit_count domains names
  unit_counts true e = omega (arith, e)
  unit_counts false e = omega (arith, e)

  pub one_more : AreNumbered domains names left (made ++ with_first (firsts (is_input name.kind))
      name ∷ []) (events_after (is_input name.kind)) (units_after (is_input name.kind))
  one_more = record {
    go_on = append_assoc made (with_first (firsts (is_input name.kind)) name ∷ [])
        (numbered domains (events_after (is_input name.kind)) (units_after (is_input name.kind))
        left) ∙ at.go_on;
    events = event_counts (is_input name.kind) events_go_on;
    units = unit_counts (is_input name.kind) units_go_on;
  }
