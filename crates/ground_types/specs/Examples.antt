-- Public contracts speak by this: sample programs, and small runs of them, computed: each equation
-- holds by computation alone.
use Rattle.std.specs.Prelude.{◌≡◌, ℕ, true, false, List, [], ◌∷◌, ◌++◌, codes, replicate, Some}
use Rattle.std.specs.Prelude.{None, refl}
use Rattle.std.proofs.Common.{lit≤}
use Rattle.ground_types.specs.declared.plan.Plan.{Plan}
use Rattle.ground_types.specs.declared.entries.Act.TheVariants.{Add, Revoke}
use Rattle.ground_types.specs.declared.entries.Reply.TheVariants.{Admitted, Delayed, Already}
use Rattle.ground_types.specs.declared.entries.Reply.TheVariants.{Revoked, DelayedRevoked, Unknown}
use Rattle.ground_types.specs.declared.entries.Reply.TheVariants.{Forgotten}
use Rattle.ground_types.specs.declared.entries.Entry.{Entry}
use Rattle.ground_types.specs.declared.entries.Entry.TheVariants.{Fed, Seal}
use Rattle.ground_types.specs.declared.program.Rule.{Rule}
use Rattle.ground_types.specs.declared.program.Trigger.{Trigger}
use Rattle.ground_types.specs.declared.program.Trigger.TheVariants.{Event, Start, End}
use Rattle.ground_types.specs.declared.program.What.TheVariants.{Holds}
use Rattle.ground_types.specs.declared.program.Unit.{Unit}
use Rattle.ground_types.specs.declared.program.UnitKind.TheVariants.{Simple, Derived}
use Rattle.ground_types.specs.declared.program.Name.{Name}
use Rattle.ground_types.specs.declared.program.NameKind.TheVariants as kind
use Rattle.ground_types.specs.declared.program.Program.{Program}
use Rattle.rt_base.specs.Kinds.{is_name, is_constant}
use Rattle.ground_types.specs.Inertia.{next_value}
use Rattle.ground_types.specs.Meaning.{are_layers}
use Rattle.ground_types.specs.Sound.{argument_lists, is_distinct}
use Rattle.ground_types.specs.History.{reply_to, stands, IsLegal}
use Rattle.ground_types.specs.Publication.{fluent_rows, event_row, publication, opening_of}
use Rattle.ground_types.specs.Touched.{evaluations}
use Rattle.ground_types.specs.Whole.{was_told, whole}
use Rattle.ground_types.specs.Truth.{holds}

-- the value v is initiated or terminated where an input event occurs
abbrev at_event : ℕ → ℕ → Rule
at_event v event = record { value = v; trigger = Event event; conds = [] }

abbrev pub ten_by_five : Plan
ten_by_five = record { window = 10; step = 5; from = 0; queries = 1024 }

abbrev input : List ℕ → ℕ → ℕ → Name
input word first line = record {
  word = word;
  kind = kind.Input;
  args = [];
  values = [];
  first = first;
  line = line;
}

abbrev simple : List ℕ → List (List ℕ) → ℕ → ℕ → Name
simple word values first line = record {
  word = word;
  kind = kind.Simple;
  args = [];
  values =
      values;
  first = first;
  line = line;
}

abbrev fluent_of : ℕ → List Rule → List Rule → Unit
fluent_of name initiate terminate = record {
  name = name;
  args = [];
  kind = Simple None initiate terminate;
}

-- up initiates on=true, and down terminates it
abbrev pub lamp_with : Plan → Program
lamp_with plan = record {
  plan = plan;
  domains = [];
  names = input (codes "up") 0 4 ∷ input (codes "down") 1 5 ∷ simple (codes "on")
      (codes "true" ∷ []) 0 6 ∷ [];
  units = fluent_of 2 (at_event 0 0 ∷ []) (at_event 0 1 ∷ []) ∷ [];
  layers = (0 ∷ []) ∷ [];
  events = 2;
}

abbrev pub lamp : Program
lamp = lamp_with ten_by_five

-- low_on initiates gear=low, and high_on initiates gear=high
abbrev pub gear : Program
gear = record {
  plan = ten_by_five;
  domains = [];
  names = input (codes "low_on") 0 3 ∷ input (codes "high_on") 1 4 ∷ simple (codes "gear")
      (codes "low" ∷ codes "high" ∷ []) 0 5 ∷ [];
  units = fluent_of 2 (at_event 0 0 ∷ at_event 1 1 ∷ []) [] ∷ [];
  layers = (0 ∷ []) ∷ [];
  events = 2;
}

abbrev first_run : List Entry
first_run = Fed 1 Add 0 3 Admitted ∷ Fed 1 Add 1 7 Admitted ∷ Fed 1 Add 0 9 Admitted ∷ Seal 0 ∷ []

-- what is published of three adds and a seal
first_run_published : publication lamp first_run 0 ≡ record {
  number = 0;
  front = 4;
  opening = None ∷ [];
  events = record { event = 0; at = 3 } ∷ record { event = 0; at = 9 } ∷ record {
    event = 1;
    at = 7;
  } ∷ [];
  rows = fluent_rows (((3, 7) ∷ (9, 11) ∷ []) ∷ []) ∷ [];
}
first_run_published = refl

first_run_evaluations : evaluations lamp first_run 0 ≡ 3
first_run_evaluations = refl

first_run_legal : IsLegal ten_by_five first_run
first_run_legal = record { entries = (refl, (refl, (refl, (refl, tt)))); few_seals = lit≤ tt }

-- an initiation beats a termination at one point
initiation_first : (publication lamp (Fed 1 Add 0 9 Admitted ∷ Fed 1 Add 1 9 Admitted ∷ Seal 0
    ∷ []) 0).rows ≡ fluent_rows (((9, 11) ∷ []) ∷ []) ∷ []
initiation_first = refl

-- the value declared first wins
declared_first : (publication gear (Fed 1 Add 1 6 Admitted ∷ Fed 1 Add 0 6 Admitted ∷ Seal 0 ∷ [])
    0).rows ≡ fluent_rows (((6, 11) ∷ []) ∷ [] ∷ []) ∷ []
declared_first = refl

-- an initiation of another value breaks the value
value_broken : (publication gear (Fed 1 Add 0 2 Admitted ∷ Fed 1 Add 1 6 Admitted ∷ Seal 0 ∷ [])
    0).rows
    ≡ fluent_rows (((2, 6) ∷ []) ∷ ((6, 11) ∷ []) ∷ []) ∷ []
value_broken = refl

-- the least number is declared first, and a termination ends its own value alone
least_first : next_value None (1 ∷ 0 ∷ []) [] ≡ Some 0
least_first = refl

other_terminated : next_value (Some 1) [] (0 ∷ []) ≡ Some 1
other_terminated = refl

-- an add at 5 is forgotten and one at 6 delayed, and only the delayed one is looked at again
abbrev late_run : List Entry
late_run = first_run ++ Fed 2 Add 0 5 Forgotten ∷ Fed 2 Add 0 6 Delayed ∷ Seal 1 ∷ []

late_run_legal : IsLegal ten_by_five late_run
late_run_legal = record {
  entries = (refl, (refl, (refl, (refl, (refl, (refl, (refl, tt)))))));
  few_seals = lit≤ tt;
}

late_run_rows : (publication lamp late_run 1).rows ≡ fluent_rows (((5, 7) ∷ (9, 16) ∷ []) ∷ []) ∷ []
late_run_rows = refl

late_run_evaluations : evaluations lamp late_run 1 ≡ 1
late_run_evaluations = refl

-- a revoked termination: nothing is looked at again, and the value goes on from the opening
abbrev revoked_run : List Entry
revoked_run = first_run ++ Fed 1 Revoke 1 7 DelayedRevoked ∷ Seal 1 ∷ []

revoked_run_legal : IsLegal ten_by_five revoked_run
revoked_run_legal = record {
  entries = (refl, (refl, (refl, (refl, (refl, (refl, tt))))));
  few_seals = lit≤ tt;
}

revoked_run_rows : (publication lamp revoked_run 1).rows ≡ fluent_rows (((5, 16) ∷ []) ∷ []) ∷ []
revoked_run_rows = refl

revoked_run_evaluations : evaluations lamp revoked_run 1 ≡ 0
revoked_run_evaluations = refl

-- what happens at the right border shows at the point after it, with which the next window opens
abbrev ten_by_ten : Plan
ten_by_ten = record { window = 10; step = 10; from = 0; queries = 1024 }

abbrev carried_run : List Entry
carried_run = Fed 1 Add 0 10 Admitted ∷ Seal 0 ∷ Seal 1 ∷ []

carried_first : (publication (lamp_with ten_by_ten) carried_run 0).rows
    ≡ fluent_rows (((10, 11) ∷ []) ∷ []) ∷ []
carried_first = refl

carried_opening : opening_of (lamp_with ten_by_ten) carried_run 1 ≡ Some 0 ∷ []
carried_opening = refl

carried_next : (publication (lamp_with ten_by_ten) carried_run 1).rows
    ≡ fluent_rows (((10, 21) ∷ []) ∷ []) ∷ []
carried_next = refl

carried_evaluations : evaluations (lamp_with ten_by_ten) carried_run 1 ≡ 0
carried_evaluations = refl

-- an add told twice, and a revoke before the seal
three_adds : List Entry
three_adds = Fed 1 Add 0 3 Admitted ∷ Fed 1 Add 1 7 Admitted ∷ Fed 1 Add 0 9 Admitted ∷ []

told_twice : reply_to ten_by_five three_adds Add 0 3 ≡ Already
unfolding three_adds
told_twice = refl

revoked_before : reply_to ten_by_five three_adds Revoke 0 9 ≡ Revoked
unfolding three_adds
revoked_before = refl

revoked_before_rows : (publication lamp (three_adds ++ Fed 1 Revoke 0 9 Revoked ∷ Seal 0 ∷ [])
    0).rows ≡ fluent_rows (((3, 7) ∷ []) ∷ []) ∷ []
unfolding three_adds
revoked_before_rows = refl

revoked_before_evaluations : evaluations lamp (three_adds ++ Fed 1 Revoke 0 9 Revoked ∷ Seal 0
    ∷ []) 0 ≡ 2
unfolding three_adds
revoked_before_evaluations = refl

-- the borders of a reply: the left border before any seal, the right border of the window sealed
-- last, and the point after it
forgotten_at_start : reply_to ten_by_five [] Add 0 0 ≡ Forgotten
forgotten_at_start = refl

delayed_at_border : reply_to ten_by_five (Seal 0 ∷ []) Add 0 10 ≡ Delayed
delayed_at_border = refl

admitted_after_border : reply_to ten_by_five (Seal 0 ∷ []) Add 0 11 ≡ Admitted
admitted_after_border = refl

delayed_revoke_at_border : reply_to ten_by_five (Fed 1 Add 0 10 Admitted ∷ Seal 0 ∷ []) Revoke 0 10
    ≡ DelayedRevoked
delayed_revoke_at_border = refl

-- a revoke of what does not stand, and after a seal at the border of the next window
unknown_revoke : reply_to ten_by_five [] Revoke 0 4 ≡ Unknown
unknown_revoke = refl

forgotten_revoke : reply_to ten_by_five (Fed 1 Revoke 0 4 Unknown ∷ Seal 0 ∷ []) Revoke 0 5
    ≡ Forgotten
forgotten_revoke = refl

later_add : reply_to ten_by_five (Fed 1 Revoke 0 4 Unknown ∷ Seal 0 ∷ Fed 1 Revoke 0 5 Forgotten
    ∷ []) Add 0 11 ≡ Admitted
later_add = refl

-- the lamp, and a derived event at this
abbrev alarm_at : Trigger → List Unit
alarm_at trigger =
    fluent_of 2 (at_event 0 0 ∷ []) (at_event 0 1 ∷ [])
    ∷ record {
      name = 3;
      args = [];
      kind = Derived (record { value = 0; trigger = trigger; conds = [] } ∷ []);
    } ∷ []

-- the lamp, and an alarm where it goes on
abbrev pub alarm : Program
alarm = record {
  plan = ten_by_five;
  domains = [];
  names =
      input (codes "up") 0 4 ∷ input (codes "down") 1 5 ∷ simple (codes "on") (codes "true" ∷ []) 0
      6
      ∷ record {
        word = codes "alarm";
        kind = kind.Derived;
        args = [];
        values = [];
        first = 1;
        line = 7;
      } ∷ [];
  units = alarm_at (Start 0 0);
  layers = (0 ∷ []) ∷ (1 ∷ []) ∷ [];
  events = 2;
}

abbrev alarm_run : List Entry
alarm_run = first_run ++ Seal 1 ∷ []

alarm_first : (publication alarm alarm_run 0).rows ≡ fluent_rows (((3, 7) ∷ (9, 11) ∷ []) ∷ [])
    ∷ event_row (3 ∷ 9 ∷ []) ∷ []
alarm_first = refl

alarm_first_evaluations : evaluations alarm alarm_run 0 ≡ 5
alarm_first_evaluations = refl

-- what is carried in has no start
alarm_next : (publication alarm alarm_run 1).rows ≡ fluent_rows (((5, 7) ∷ (9, 16) ∷ []) ∷ [])
    ∷ event_row (9 ∷ []) ∷ []
alarm_next = refl

alarm_next_evaluations : evaluations alarm alarm_run 1 ≡ 0
alarm_next_evaluations = refl

-- hot initiates heat=true and cold terminates it, and up initiates on=true where there is no heat:
-- on has layer 2, heat layer 1
abbrev pub heater : Program
heater = record {
  plan = ten_by_five;
  domains = [];
  names =
      input (codes "up") 0 4 ∷ input (codes "hot") 1 5 ∷ input (codes "cold") 2 6 ∷ simple
      (codes "on") (codes "true" ∷ []) 0 7
      ∷ simple (codes "heat") (codes "true" ∷ []) 1 8 ∷ [];
  units =
      fluent_of 3 (record {
        value = 0;
        trigger = Event 0;
        conds = record {
          positive = false;
          what = Holds 1 0;
        } ∷ [];
      } ∷ []) []
      ∷ fluent_of 4 (at_event 0 1 ∷ []) (at_event 0 2 ∷ []) ∷ [];
  layers = (1 ∷ []) ∷ (0 ∷ []) ∷ [];
  events = 3;
}

-- a delayed hot takes the initiation at 8 away: both its own rule and that of on are looked at
-- again
abbrev heater_run : List Entry
heater_run = Fed 1 Add 0 8 Admitted ∷ Seal 0 ∷ Fed 2 Add 1 6 Delayed ∷ Seal 1 ∷ []

heater_first : (publication heater heater_run 0).rows ≡ fluent_rows (((8, 11) ∷ []) ∷ [])
    ∷ fluent_rows ([] ∷ []) ∷ []
heater_first = refl

heater_next : (publication heater heater_run 1).rows ≡ fluent_rows ([] ∷ []) ∷ fluent_rows
    (((6, 16) ∷ []) ∷ []) ∷ []
heater_next = refl

heater_next_evaluations : evaluations heater heater_run 1 ≡ 2
heater_next_evaluations = refl

-- without windows the forgotten add at 5 counts too
told_anyway : was_told late_run 0 5 ≡ true
told_anyway = refl

never_stood : stands late_run 0 5 ≡ false
never_stood = refl

on_at_four : holds (whole lamp late_run) 0 0 4 ≡ true
on_at_four = refl

off_at_nine : holds (whole lamp late_run) 0 0 9 ≡ false
off_at_nine = refl

-- the front ends at its own seal
early_front : (publication lamp late_run 0).front ≡ 4
early_front = refl

late_front : (publication lamp late_run 1).front ≡ 7
late_front = refl

-- a forgotten revoke is told too
revoked_anyway : was_told (first_run ++ Fed 1 Revoke 0 3 Forgotten ∷ []) 0 3 ≡ false
revoked_anyway = refl

stands_still : stands (first_run ++ Fed 1 Revoke 0 3 Forgotten ∷ []) 0 3 ≡ true
stands_still = refl

-- an event at the right border is looked at once
border_evaluations : evaluations lamp (Fed 1 Add 0 10 Admitted ∷ Seal 0 ∷ Seal 1 ∷ []) 1 ≡ 0
border_evaluations = refl

-- an event ahead of its window waits for it
abbrev ahead_run : List Entry
ahead_run = Fed 1 Add 0 20 Admitted ∷ Seal 0 ∷ Seal 1 ∷ Seal 2 ∷ []

ahead_evaluations : evaluations lamp ahead_run 2 ≡ 1
ahead_evaluations = refl

ahead_rows : (publication lamp ahead_run 2).rows ≡ fluent_rows (((20, 21) ∷ []) ∷ []) ∷ []
ahead_rows = refl

empty_window : (publication lamp (Seal 0 ∷ []) 0).rows ≡ fluent_rows ([] ∷ []) ∷ []
empty_window = refl

-- the lamp that is on from the beginning
abbrev lit : Program
lit = record lamp {
  units = record {
    name = 2;
    args = [];
    kind = Simple (Some 0) (at_event 0 0 ∷ []) (at_event 0 1 ∷ []);
  } ∷ [];
}

lit_rows : (publication lit (Fed 1 Add 1 7 Admitted ∷ Seal 0 ∷ []) 0).rows
    ≡ fluent_rows (((0, 7) ∷ []) ∷ []) ∷ []
lit_rows = refl

-- the alarm where the lamp goes off
abbrev dark : Program
dark = record alarm {
  units = alarm_at (End 0 0);
}

dark_rows : (publication dark first_run 0).rows ≡ fluent_rows (((3, 7) ∷ (9, 11) ∷ []) ∷ [])
    ∷ event_row (7 ∷ []) ∷ []
dark_rows = refl

-- the order of arguments, what soundness refuses, and the kinds of words
arguments_in_order : argument_lists (2 ∷ 2 ∷ []) ≡ (0 ∷ 0 ∷ []) ∷ (0 ∷ 1 ∷ []) ∷ (1 ∷ 0 ∷ [])
    ∷ (1 ∷ 1 ∷ []) ∷ []
arguments_in_order = refl

out_of_order : are_layers alarm [] ((1 ∷ []) ∷ (0 ∷ []) ∷ []) ≡ false
out_of_order = refl

declared_twice : is_distinct (codes "up" ∷ codes "down" ∷ codes "up" ∷ []) ≡ false
declared_twice = refl

kinds_of_words :
    is_name (codes "end") ∷ is_constant (codes "end") ∷ is_name (codes "9a") ∷ is_constant
    (codes "9a") ∷ is_name (codes "Up")
    ∷ is_constant [] ∷ is_name (replicate 64 97) ∷ is_name (replicate 65 97) ∷ []
    ≡ false ∷ true ∷ false ∷ true ∷ false ∷ false ∷ true ∷ false ∷ []
kinds_of_words = refl
