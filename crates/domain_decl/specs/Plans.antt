-- Public contracts speak by this: the plan of a description.
use Rattle.std.specs.Prelude.{ℕ, nat_le, Bool, ◌&&◌, List, [], ◌∷◌, filter_map, Option, Some, None}
use Rattle.std.specs.Prelude.{if◌then◌else◌}
use Rattle.ground_types.specs.declared.plan.Plan.{Plan}
use Rattle.decl_known.specs.Sound.{is_allowed}
use Rattle.rule_forms.specs.Forms.{PlainForm, PlainStatement, Window, Step, From, Queries}

abbrev pub window_in : PlainForm → Option ℕ
window_in (Window n) = Some n
window_in form = None

abbrev pub step_in : PlainForm → Option ℕ
step_in (Step n) = Some n
step_in form = None

abbrev pub from_in : PlainForm → Option ℕ
from_in (From n) = Some n
from_in form = None

abbrev pub queries_in : PlainForm → Option ℕ
queries_in (Queries n) = Some n
queries_in form = None

-- the numbers of all statements of one kind
abbrev pub all_in : (PlainForm → Option ℕ) → List PlainStatement → List ℕ
all_in number_in statements = filter_map (λ s. number_in s.form) statements

-- the only one
abbrev pub only : List ℕ → Option ℕ
only (n ∷ []) = Some n
only ns = None

-- the only one, or this where there is none
abbrev pub only_or : ℕ → List ℕ → Option ℕ
only_or default [] = Some default
only_or default (n ∷ []) = Some n
only_or default ns = None

abbrev pub plan_by : Option ℕ → Option ℕ → Option ℕ → Option ℕ → Option Plan
plan_by (Some window) (Some step) (Some from) (Some queries) =
    let plan : Plan = record { window = window; step = step; from = from; queries = queries } in
    if is_allowed plan then Some plan else None
plan_by window step from queries = None

-- The plan: one `window`, one `step`, and at most one `from`, else 0, and one `queries`, else
-- 1,024; and the numbers are allowed.
abbrev pub plan_of : List PlainStatement → Option Plan
plan_of statements =
    plan_by (only (all_in window_in statements)) (only (all_in step_in statements))
    (only_or 0 (all_in from_in statements))
    (only_or 1024 (all_in queries_in statements))
