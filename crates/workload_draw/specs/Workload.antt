-- Public contracts speak by this: made workloads, which a seed, a size and a program determine.
use Rattle.std.specs.Prelude.{◌<◌, ◌≤◌, ℕ, zero, suc, ◌+◌, ◌-◌, ◌*◌, ◌/◌, ◌%◌, ◌^◌, min, ◌==◌}
use Rattle.std.specs.Prelude.{not, ◌&&◌, ◌||◌, if◌then◌else◌, List, [], ◌∷◌, ◌++◌, filter}
use Rattle.std.specs.Prelude.{slice_get, Option, Some}
use Rattle.std.specs.Int.{div_ceil}
use Rattle.ground_types.specs.declared.entries.Act.TheVariants.{Add, Revoke}
use Rattle.ground_types.specs.declared.entries.Command.{Command}
use Rattle.ground_types.specs.declared.entries.Command.TheVariants.{Feed, Seal}
use Rattle.ground_types.specs.declared.plan.Plan.{Plan}
use Rattle.ground_types.specs.declared.program.Program.{Program}
use Rattle.ground_types.specs.Windows.{left}
use Rattle.workload_draw.specs.Counts.{is_feed}

-- the state behind a draw: the linear congruential generator of Knuth's MMIX
abbrev pub next_state : ℕ → ℕ
next_state x = (x * 6364136223846793005 + 1442695040888963407) % 2 ^ 64

-- what a draw below n answers in state x: the higher bits of the state behind it
abbrev pub drawn : ℕ → ℕ → ℕ
drawn n x = next_state x / 2048 % n

-- M, how many adds and revokes a seal follows (the last seal fewer, perhaps): size / queries,
-- rounded up
abbrev pub per_seal : Plan → ℕ → ℕ
per_seal plan size = div_ceil size plan.queries

-- The point of an add that is drawn for query k, in state x: one of the points after w_k - step and
-- up to w_k + window, so some lie at or before the left border. A difference of natural numbers is
-- 0 where it would be below 0.
abbrev pub point_drawn : Plan → ℕ → ℕ → ℕ
point_drawn plan k x = left plan k + 1 + drawn (plan.window + plan.step) x - plan.step

-- an add by a feeder, drawn for query k: the event is drawn in state x, and then the point
abbrev pub added : Program → ℕ → ℕ → ℕ → Command
added program feeder k x =
    Feed feeder Add (drawn program.events x) (point_drawn program.plan k (next_state x))

-- add or revoke number j, counted from 0 and without seals
abbrev pub feed_at : List Command → ℕ → Option Command
feed_at commands j = slice_get (filter is_feed commands) j

-- the revoke by a feeder of the event and point that a command names, whatever its act is; no
-- workload asks for one where there is none
abbrev pub revoked : ℕ → Option Command → Command
revoked feeder (Some (Feed other act event at)) = Feed feeder Revoke event at
revoked feeder other = Feed feeder Revoke 0 0

-- the revoke of what one of the adds and revokes before command i names: it is drawn in state x
-- from the 64 nearest, or from all where they are fewer
abbrev pub revoked_before : ℕ → ℕ → List Command → ℕ → Command
revoked_before feeder i before x = revoked feeder (feed_at before (i - 1 - drawn (min i 64) x))

-- the state of the generator, and the commands so far
pub record Drawing : Type 0 where
  pub state : ℕ
  pub commands : List Command

-- With command i, of a feeder of 1 to 8: one time in ten a revoke, if it is not the first command,
-- else an add for query i / M.
abbrev pub with_feed : Program → ℕ → ℕ → Drawing → Drawing
with_feed program m i before =
    let feeder = 1 + drawn 8 before.state in
    let chance = next_state before.state in
    let next = next_state chance in
    if (drawn 10 chance == 0) && not (i == 0)
    then record {
      state = next_state next;
      commands = before.commands ++ revoked_before feeder i before.commands next ∷ [];
    }
    else record {
      state = next_state (next_state next);
      commands = before.commands ++ added program feeder (i / m) next ∷ [];
    }

-- with a seal, where one follows command i: behind M commands each, and behind the last
abbrev pub with_seal : ℕ → ℕ → ℕ → Drawing → Drawing
with_seal size m i before =
    if ((i + 1) % m == 0) || (i + 1 == size)
    then record before { commands = before.commands ++ Seal ∷ [] }
    else before

-- with command i, if the program has input events, and with the seal that follows it, if any
abbrev pub with_round : Program → ℕ → ℕ → Drawing → Drawing
with_round program size i before =
    let m = per_seal program.plan size in
    with_seal size m i (if program.events == 0 then before else with_feed program m i before)

-- the first n rounds
abbrev pub drawing : Program → ℕ → ℕ → ℕ → Drawing
drawing program seed size zero = record { state = seed; commands = [] }
drawing program seed size (suc i) = with_round program size i (drawing program seed size i)

-- the workload of a seed and a size
abbrev pub workload_of : Program → ℕ → ℕ → List Command
workload_of program seed size = (drawing program seed size size).commands

-- an add or a revoke of a feeder of 1 to 8 and an event of the program, or a seal
abbrev pub IsMade : Program → Command → Type 0
IsMade program (Feed feeder act event at) = (1 ≤ feeder) × (feeder ≤ 8) × (event < program.events)
IsMade program Seal = Unit {0}
IsMade program command = ⊥

-- so is each command of a list
abbrev pub AreMade : Program → List Command → Type 0
AreMade program [] = Unit {0}
AreMade program (command ∷ rest) = IsMade program command × AreMade program rest
