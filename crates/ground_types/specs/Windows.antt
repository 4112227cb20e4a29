-- Public contracts speak by this: *Windows*, the window (Q - WM, Q] of RTEC, numbered by query from
-- 0 on.
use Rattle.std.specs.Prelude.{ℕ, ◌+◌, ◌*◌, ◌≤◌}
use Rattle.ground_types.specs.declared.plan.Plan.{Plan}

-- w_k, the border before the first event point of query k
abbrev pub left : Plan → ℕ → ℕ
left plan k = plan.from + k * plan.step

-- Q_k, the last event point of query k
abbrev pub right : Plan → ℕ → ℕ
right plan k = left plan k + plan.window

-- Windows overlap or touch; a window is at most 1,000,000,000,000 long, there are at most 1,024
-- queries, and the left border after the last query is at most 5,024,000,000,000,000.
pub record IsSoundPlan (plan : Plan) : Type 0 where
  pub step_some : 1 ≤ plan.step
  pub step_most : plan.step ≤ plan.window
  pub window_most : plan.window ≤ 1000000000000
  pub queries_most : plan.queries ≤ 1024
  pub end_most : plan.from + plan.queries * plan.step ≤ 5024000000000000
