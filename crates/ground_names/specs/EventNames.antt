-- For private functions alone: of which name a ground input event is.
use Rattle.std.specs.Prelude.{◌≡◌, ◌<◌, ◌≤◌, ℕ, ◌-◌, nat_le, true, false, List, filter, length}
use Rattle.std.specs.Prelude.{slice_get, slice_index_or, Option, option_map}
use Rattle.ground_types.specs.Sound.{is_input, arguments_of}
use Rattle.ground_types.specs.declared.program.Domain.{Domain}
use Rattle.ground_types.specs.declared.program.Name.{Name}

-- the names of input events, in their order
abbrev pub inputs : List Name → List Name
inputs names = filter (λ name. is_input name.kind) names

-- the name and the arguments of an event, if it is one of this name, whose events are numbered from
-- its first on
abbrev pub head_at : List Domain → ℕ → Name → Option (Name × List ℕ)
head_at domains event name = option_map (λ args. (name, args))
    (slice_get (arguments_of domains name) (event - name.first))

-- so many of the names begin at an event or before it, and the others behind it
pub record IsSplit (event : ℕ) (names : List Name) (k : ℕ) : Type 0 where
  pub few : k ≤ length names
  pub low : (i : ℕ) (d : Name) → i < k → nat_le (slice_index_or names i d).first event ≡ true
  pub high : (i : ℕ) (d : Name) → k ≤ i → i < length names
      → nat_le (slice_index_or names i d).first event ≡ false
