-- No contract of the library speaks by this: a publication that is right for itself, by computation
-- alone.
use Rattle.std.specs.Prelude.{[], ◌∷◌, Some, None, codes, refl}
use Rattle.std.proofs.Common.{lit≤}
use Rattle.span_algebra.specs.declared.rows.UnitRows.TheVariants.{Fluent}
use Rattle.ground_types.specs.declared.program.NameKind.TheVariants as name_kind
use Rattle.ground_types.specs.declared.program.UnitKind.TheVariants.{Simple}
use Rattle.ground_types.specs.declared.program.Program.{Program}
use Rattle.query_ask.specs.Right.{Parts, IsRightForItself}

-- a lamp that no rule changes, over windows of one point
abbrev pub lamp : Program
lamp = record {
  plan = record { window = 1; step = 1; from = 3; queries = 2 };
  domains = [];
  names = record {
    word = codes "on";
    kind = name_kind.Simple;
    args = [];
    values = codes "true" ∷ [];
    first = 0;
    line = 6;
  } ∷ [];
  units = record { name = 0; args = []; kind = Simple None [] [] } ∷ [];
  layers = (0 ∷ []) ∷ [];
  events = 1;
}

-- query 1 of the lamp, which opens with these rows where it is on from the beginning
abbrev pub lamp_on : Parts
lamp_on = record {
  number = 1;
  front = 2;
  program = lamp;
  opening = Some 0 ∷ [];
  events = record { event = 0; at = 5 } ∷ [];
  rows = Fluent ((record { after = 4; until = 6 } ∷ []) ∷ []) ∷ [];
  evaluations = 7;
}

pub is_on : IsRightForItself lamp_on
is_on = record { number = lit≤ tt; rows = refl }
