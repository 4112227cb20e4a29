-- No contract of the library speaks by this: a program with events of several names, and a
-- publication over it that is right for itself, by computation alone.
use Rattle.std.specs.Prelude.{ℕ, List, [], ◌∷◌, Some, None, codes, refl}
use Rattle.std.proofs.Common.{lit≤}
use Rattle.span_algebra.specs.declared.rows.UnitRows.TheVariants as rows
use Rattle.ground_types.specs.declared.program.Name.{Name}
use Rattle.ground_types.specs.declared.program.NameKind.{NameKind}
use Rattle.ground_types.specs.declared.program.NameKind.TheVariants as name_kind
use Rattle.ground_types.specs.declared.program.Trigger.TheVariants as trigger
use Rattle.ground_types.specs.declared.program.UnitKind.TheVariants as unit_kind
use Rattle.ground_types.specs.declared.program.Program.{Program}
use Rattle.query_ask.specs.Right.{Parts, IsRightForItself}

-- a name of no values
abbrev pub plain_name : List ℕ → NameKind → List ℕ → ℕ → Name
plain_name word kind args first = record {
  word = word;
  kind = kind;
  args = args;
  values = [];
  first = first;
  line = 1;
}

abbrev pub light_name : Name
light_name = record {
  word = codes "light";
  kind = name_kind.Simple;
  args = [];
  values = codes "true" ∷ [];
  first = 0;
  line = 1;
}

-- a light that no rule changes, and a chime at each bell
abbrev pub port : Program
port = record {
  plan = record { window = 3; step = 2; from = 0; queries = 2 };
  domains = record { word = codes "v"; entities = codes "x" ∷ codes "y" ∷ [] } ∷ [];
  names = plain_name (codes "up") name_kind.Input (0 ∷ []) 0
      ∷ plain_name (codes "near") name_kind.Input (0 ∷ 0 ∷ []) 2
      ∷ plain_name (codes "bell") name_kind.Input [] 6
      ∷ light_name
      ∷ plain_name (codes "chime") name_kind.Derived [] 1 ∷ [];
  units = record { name = 3; args = []; kind = unit_kind.Simple None [] [] }
      ∷ record {
        name = 4;
        args = [];
        kind = unit_kind.Derived (record {
          value = 0;
          trigger = trigger.Event 6;
          conds = [];
        } ∷ []);
      } ∷ [];
  layers = (0 ∷ 1 ∷ []) ∷ [];
  events = 7;
}

-- query 1, which opens with the light
abbrev pub port_lit : Parts
port_lit = record {
  number = 1;
  front = 2;
  program = port;
  opening = Some 0 ∷ None ∷ [];
  events = record { event = 6; at = 4 } ∷ [];
  rows = rows.Fluent ((record { after = 2; until = 6 } ∷ []) ∷ []) ∷ rows.Event (4 ∷ []) ∷ [];
  evaluations = 7;
}

pub is_lit : IsRightForItself port_lit
is_lit = record { number = lit≤ tt; rows = refl }
