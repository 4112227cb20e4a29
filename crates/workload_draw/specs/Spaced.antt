-- For private functions alone: where the adds and revokes stand between the seals.
use Rattle.std.specs.Prelude.{◌≡◌, ◌<◌, ℕ, ◌+◌, ◌/◌, List, length, filter, slice_get}
use Rattle.ground_types.specs.declared.entries.Command.{Command}
use Rattle.workload_draw.specs.Counts.{is_feed}
use Rattle.workload_draw.specs.Workload.{feed_at}

-- there are n adds and revokes and s seals, and add or revoke j stands behind j / m seals
pub record AreSpaced (m n s : ℕ) (commands : List Command) : Type 0 where
  pub feeds : length (filter is_feed commands) ≡ n
  pub all : length commands ≡ n + s
  pub placed : (j : ℕ) → j < n → slice_get commands (j + j / m) ≡ feed_at commands j
