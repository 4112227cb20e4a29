-- For private functions alone: a sample program; and evidence that the definitions say what is
-- meant: small workloads, beside those of another program. Each equation holds by computation
-- alone.
use Rattle.std.specs.Prelude.{◌≡◌, ℕ, ◌+◌, List, [], ◌∷◌, drop, codes, refl}
use Rattle.ground_types.specs.Examples.{lamp}
use Rattle.ground_types.specs.declared.entries.Act.TheVariants.{Add, Revoke}
use Rattle.ground_types.specs.declared.entries.Command.TheVariants.{Feed, Seal}
use Rattle.ground_types.specs.declared.plan.Plan.{Plan}
use Rattle.ground_types.specs.declared.program.Name.{Name}
use Rattle.ground_types.specs.declared.program.NameKind.TheVariants.{Input}
use Rattle.ground_types.specs.declared.program.Program.{Program}
use Rattle.workload_draw.specs.Workload.{workload_of}

-- more queries than commands: a seal follows each
of_the_lamp : workload_of lamp 7 5 ≡ Feed 8 Add 1 8 ∷ Seal ∷ Feed 8 Add 1 8 ∷ Seal ∷ Feed 7 Add 1 6
    ∷ Seal ∷ Feed 1 Add 1 18 ∷ Seal ∷ Feed 7 Add 0 29 ∷ Seal ∷ []
of_the_lamp = refl

-- windows of ten points, each five points after the one before it, for so many queries
abbrev pub ten_by_five_of : ℕ → Plan
ten_by_five_of queries = record { window = 10; step = 5; from = 0; queries = queries }

abbrev input : List ℕ → ℕ → Name
input word event = record {
  word = word;
  kind = Input;
  args = [];
  values = [];
  first = event;
  line = event + 5;
}

-- two input events, and nothing that they initiate
abbrev pub two_inputs : Plan → Program
two_inputs plan = record {
  plan = plan;
  domains = [];
  names = input (codes "up") 0 ∷ input (codes "down") 1 ∷ [];
  units = [];
  layers = [];
  events = 2;
}

-- two queries for five commands; a point below 0 is 0, and two commands in succession revoke those
-- that came two before them, across a seal too
of_two_queries : workload_of (two_inputs (ten_by_five_of 2)) 11 5 ≡ Feed 8 Add 0 0 ∷ Feed 4 Add 0 8
    ∷ Feed 6 Revoke 0 0 ∷ Seal ∷ Feed 6 Revoke 0 8 ∷ Feed 6 Add 0 5 ∷ Seal ∷ []
of_two_queries = refl

-- what two revokes name is the same, whichever is drawn
of_one_query : workload_of (two_inputs (ten_by_five_of 1)) 113 4 ≡ Feed 5 Add 0 0
    ∷ Feed 6 Revoke 0 0 ∷ Feed 5 Add 1 0 ∷ Feed 6 Revoke 0 0 ∷ Seal ∷ []
of_one_query = refl

-- the first command is an add, whatever is drawn, and a revoke may be of what a revoke names
of_a_revoke : workload_of (two_inputs (ten_by_five_of 1)) 104 4
    ≡ Feed 6 Add 0 5 ∷ Feed 3 Revoke 0 5 ∷ Feed 8 Revoke 0 5 ∷ Feed 8 Add 1 1 ∷ Seal ∷ []
of_a_revoke = refl

-- a revoke reaches back by 64 commands at most
of_many_commands : drop 69 (workload_of (two_inputs (ten_by_five_of 1)) 12 70)
    ≡ Feed 2 Revoke 0 4 ∷ Seal ∷ []
of_many_commands = refl

-- borders, windows and steps of other lengths
of_other_windows : workload_of (two_inputs (record {
  window = 7;
  step = 3;
  from = 100;
  queries = 2;
})) 4 4 ≡ Feed 8 Add 0 102 ∷ Feed 7 Add 0 99 ∷ Seal ∷ Feed 4 Add 0 102 ∷ Feed 5 Add 0 109 ∷ Seal
    ∷ []
of_other_windows = refl

-- the greatest seed
of_the_greatest_seed : workload_of (two_inputs (ten_by_five_of 2)) 18446744073709551615 3
    ≡ Feed 1 Add 1 0 ∷ Feed 8 Add 1 7 ∷ Seal ∷ Feed 1 Add 0 6 ∷ Seal ∷ []
of_the_greatest_seed = refl

-- without input events there are the seals alone
of_no_events : workload_of (record (two_inputs (ten_by_five_of 2)) { events = 0 }) 11 5 ≡ Seal
    ∷ Seal ∷ []
of_no_events = refl
