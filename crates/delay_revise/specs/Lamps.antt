-- No contract of the library speaks by this: a program for tests, what they tell of it, and what is
-- published of that, by computation alone.
use Rattle.std.specs.Prelude.{◌≡◌, ℕ, ◌+◌, ◌*◌, List, [], ◌∷◌, ◌++◌, map, None, codes, refl}
use Rattle.ground_types.specs.Publication.{publication, fluent_rows, event_row}
use Rattle.ground_types.specs.Touched.{evaluations}
use Rattle.ground_types.specs.declared.entries.Act.TheVariants.{Add, Revoke}
use Rattle.ground_types.specs.declared.entries.Entry.{Entry}
use Rattle.ground_types.specs.declared.entries.Entry.TheVariants.{Fed, Seal}
use Rattle.ground_types.specs.declared.entries.Reply.TheVariants.{Admitted, Delayed, DelayedRevoked}
use Rattle.ground_types.specs.declared.entries.Reply.TheVariants.{Forgotten}
use Rattle.ground_types.specs.declared.program.Name.{Name}
use Rattle.ground_types.specs.declared.program.NameKind.TheVariants as name_kind
use Rattle.ground_types.specs.declared.program.Program.{Program}
use Rattle.ground_types.specs.declared.program.Rule.{Rule}
use Rattle.ground_types.specs.declared.program.Trigger.{Trigger}
use Rattle.ground_types.specs.declared.program.Trigger.TheVariants.{Event, Start}
use Rattle.ground_types.specs.declared.program.Unit.{Unit}
use Rattle.ground_types.specs.declared.program.UnitKind.TheVariants.{Simple, Derived}
use Rattle.delay_revise.specs.Revising.{Revising, new_reviser, closed}

-- ---- the program

abbrev pub input_name : List ℕ → ℕ → Name
input_name word first = record {
  word = word;
  kind = name_kind.Input;
  args = [];
  values = [];
  first = first;
  line = 1;
}

abbrev pub fluent_name : List ℕ → ℕ → Name
fluent_name word first = record {
  word = word;
  kind = name_kind.Simple;
  args = [];
  values = codes "true" ∷ [];
  first = first;
  line = 1;
}

-- the names of the lamp of this number: what switches it on and off, and the lamp
abbrev pub lamp_names : List ℕ → List ℕ → List ℕ → ℕ → List Name
lamp_names on off lamp number = input_name on (2 * number) ∷ input_name off (2 * number + 1)
    ∷ fluent_name lamp number ∷ []

abbrev pub stop_name : Name
stop_name = record {
  word = codes "stop";
  kind = name_kind.Derived;
  args = [];
  values = [];
  first = 3;
  line = 1;
}

-- a rule without further conditions, for value 0
abbrev pub rule_at : Trigger → Rule
rule_at trigger = record { value = 0; trigger = trigger; conds = [] }

-- the lamp of this number is lit where its first event happens, and goes out where its second does
abbrev pub lamp_unit : ℕ → Unit
lamp_unit number = record {
  name = 3 * number + 2;
  args = [];
  kind = Simple None (rule_at (Event (2 * number)) ∷ []) (rule_at (Event (2 * number + 1)) ∷ []);
}

-- a stop happens where the lamp 0 is lit
abbrev pub stop_unit : Unit
stop_unit = record { name = 9; args = []; kind = Derived (rule_at (Start 0 0) ∷ []) }

-- three lamps in one layer, and a stop above them
abbrev pub three_lamps : Program
three_lamps = record {
  plan = record { window = 10; step = 5; from = 0; queries = 3 };
  domains = [];
  names = lamp_names (codes "red_on") (codes "red_off") (codes "red") 0
      ++ lamp_names (codes "amber_on") (codes "amber_off") (codes "amber") 1
      ++ lamp_names (codes "green_on") (codes "green_off") (codes "green") 2
      ++ stop_name ∷ [];
  units = lamp_unit 0 ∷ lamp_unit 1 ∷ lamp_unit 2 ∷ stop_unit ∷ [];
  layers = (0 ∷ 1 ∷ 2 ∷ []) ∷ (3 ∷ []) ∷ [];
  events = 6;
}

-- ---- what they are told

abbrev pub first_chunk : List Entry
first_chunk = Fed 1 Add 0 3 Admitted ∷ Fed 1 Add 1 7 Admitted ∷ Fed 1 Add 0 9 Admitted
    ∷ Fed 1 Add 2 2 Admitted ∷ Fed 1 Add 3 8 Admitted ∷ Fed 2 Add 4 10 Admitted ∷ Seal 0 ∷ []

-- an add and a revoke that come late
abbrev pub second_chunk : List Entry
second_chunk = Fed 2 Add 4 6 Delayed ∷ Fed 2 Revoke 3 8 DelayedRevoked ∷ Fed 1 Add 1 12 Admitted
    ∷ Seal 1 ∷ []

-- adds that come late, and a revoke that comes too late
abbrev pub third_chunk : List Entry
third_chunk = Fed 1 Add 0 14 Delayed ∷ Fed 2 Revoke 4 10 Forgotten ∷ Fed 1 Add 3 18 Admitted
    ∷ Fed 2 Add 5 13 Delayed ∷ Seal 2 ∷ []

-- a reviser of the lamps that took a history, between two chunks
abbrev pub lamps_after : List Entry → Revising
lamps_after history = closed (record (new_reviser three_lamps 20) { taken = history })

-- ---- what is published of that

all_chunks : List Entry
all_chunks = first_chunk ++ second_chunk ++ third_chunk

first_rows : (publication three_lamps all_chunks 0).rows
    ≡ fluent_rows (((3, 7) ∷ (9, 11) ∷ []) ∷ []) ∷ fluent_rows (((2, 8) ∷ []) ∷ [])
    ∷ fluent_rows (((10, 11) ∷ []) ∷ []) ∷ event_row (3 ∷ 9 ∷ []) ∷ []
unfolding all_chunks
first_rows = refl

second_rows : (publication three_lamps all_chunks 1).rows
    ≡ fluent_rows (((5, 7) ∷ (9, 12) ∷ []) ∷ []) ∷ fluent_rows (((5, 16) ∷ []) ∷ [])
    ∷ fluent_rows (((6, 16) ∷ []) ∷ []) ∷ event_row (9 ∷ []) ∷ []
unfolding all_chunks
second_rows = refl

third_rows : (publication three_lamps all_chunks 2).rows
    ≡ fluent_rows (((10, 12) ∷ (14, 21) ∷ []) ∷ []) ∷ fluent_rows (((10, 18) ∷ []) ∷ [])
    ∷ fluent_rows (((10, 13) ∷ []) ∷ []) ∷ event_row (14 ∷ []) ∷ []
unfolding all_chunks
third_rows = refl

evaluations_are : map (evaluations three_lamps all_chunks) (0 ∷ 1 ∷ 2 ∷ []) ≡ 8 ∷ 2 ∷ 4 ∷ []
unfolding all_chunks
evaluations_are = refl
