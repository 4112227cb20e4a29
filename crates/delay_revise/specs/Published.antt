-- Public contracts speak by this: what is computed, against what is published of a history.
use Rattle.std.specs.Prelude.{◌≡◌, ◌<◌, ◌≤◌, ℕ, suc, Bool, true, List, slice_get, Some}
use Rattle.std.specs.Prelude.{option_map}
use Rattle.ground_types.specs.History.{stands, before_seal}
use Rattle.ground_types.specs.Members.{contains}
use Rattle.ground_types.specs.Windows.{left, right}
use Rattle.ground_types.specs.Publication.{publication}
use Rattle.ground_types.specs.declared.entries.Entry.{Entry}
use Rattle.ground_types.specs.declared.program.Program.{Program}
use Rattle.ground_types.specs.declared.program.Unit.{Unit}
use Rattle.span_algebra.specs.declared.rows.UnitRows.{UnitRows}
use Rattle.query_ask.specs.Right.{published}

-- these events occur at the points of the window of query k where they stand at its seal
abbrev pub OccurIn : Program → List Entry → ℕ → (ℕ → ℕ → Bool) → Type 0
OccurIn program history k occurs =
    (event t : ℕ) → event < program.events → left program.plan k < t → t ≤ right program.plan k →
    occurs event t ≡ stands (before_seal history k) event t

-- these events occur where the windows of query k and of the next one overlap as they stand at the
-- seal of query k
abbrev pub OccurBefore : Program → List Entry → ℕ → (ℕ → ℕ → Bool) → Type 0
OccurBefore program history k occurs =
    (event t : ℕ) → event < program.events → left program.plan (suc k) < t
    → t ≤ right program.plan k → occurs event t ≡ stands (before_seal history k) event t

-- these units have the rows that are published of query k
abbrev pub HaveRowsOf : Program → List Entry → ℕ → List ℕ → List UnitRows → Type 0
HaveRowsOf program history k units rows =
    (number : ℕ) (unit : Unit) → slice_get program.units number ≡ Some unit
    → contains units number ≡ true →
    option_map published (slice_get rows number) ≡ slice_get (publication program history k).rows
    number
