-- Public contracts speak by this: *Touched points*, and the count of evaluations, at which points a
-- body has to be looked at for a query.
use Rattle.std.specs.Prelude.{ℕ, zero, suc, nat_lt, Bool, true, ◌&&◌, ◌||◌, List, []}
use Rattle.std.specs.Prelude.{◌++◌, length, sum_by}
use Rattle.std.specs.List.{list_any}
pub use Rattle.rt_base.specs.Truths.{differs}
use Rattle.ground_types.specs.Windows.{left, right}
use Rattle.ground_types.specs.Truth.{Table, happens, condition_holds}
use Rattle.ground_types.specs.Recognition.{kind_of}
use Rattle.ground_types.specs.Rows.{points}
use Rattle.ground_types.specs.Publication.{query_table}
use Rattle.ground_types.specs.declared.entries.Entry.{Entry}
use Rattle.ground_types.specs.declared.program.Rule.{Rule}
use Rattle.ground_types.specs.declared.program.UnitKind.{UnitKind}
use Rattle.ground_types.specs.declared.program.UnitKind.TheVariants.{Simple, Static, Derived}
use Rattle.ground_types.specs.declared.program.Program.{Program}

-- the trigger or a further condition has another truth at the point in the two tables
abbrev pub is_changed : Table → Table → Rule → ℕ → Bool
is_changed old new rule t =
    differs (happens old rule.trigger t) (happens new rule.trigger t)
    || list_any (λ cond. differs (condition_holds old cond t) (condition_holds new cond t))
    rule.conds

-- the query before does not settle the body at this point: there is none, its window ends before
-- the point, or the trigger or a condition has another truth there
abbrev pub is_unsettled : Program → List Entry → ℕ → Rule → ℕ → Bool
is_unsettled program history zero rule t = true
is_unsettled program history (suc k) rule t =
    nat_lt (right program.plan k) t
    || is_changed (query_table program history k) (query_table program history (suc k)) rule t

-- *Touched points* of a rule in query k: its trigger occurs, and the query before does not settle
-- its body
abbrev pub touched : Program → List Entry → ℕ → Rule → List ℕ
touched program history k rule =
    points (λ t. happens (query_table program history k) rule.trigger t && is_unsettled program
    history k rule t)
    (left program.plan k) (right program.plan k)

-- the rules of a unit, in the order of its lists
abbrev pub rules_of : UnitKind → List Rule
rules_of (Simple initially initiate terminate) = initiate ++ terminate
rules_of (Static exprs) = []
rules_of (Derived rules) = rules

abbrev pub evaluations_of_unit : Program → List Entry → ℕ → ℕ → ℕ
evaluations_of_unit program history k unit =
    sum_by (λ rule. length (touched program history k rule)) (rules_of (kind_of program unit))

-- evaluations(k, H): the touched points of all rules, layer by layer and unit by unit
abbrev pub evaluations : Program → List Entry → ℕ → ℕ
evaluations program history k =
    sum_by (λ layer. sum_by (evaluations_of_unit program history k) layer) program.layers
