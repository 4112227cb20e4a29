-- For private functions alone: the index by which the last entry of an event and point is found. A
-- slot is 0 where it is empty, else one more than the place of an entry in the history.
use Rattle.std.specs.Prelude.{◌≡◌, ◌<◌, ◌≤◌, ℕ, zero, suc, ◌+◌, ◌-◌, ◌*◌, ◌/◌, ◌^◌, min, Bool, true}
use Rattle.std.specs.Prelude.{false, ◌==◌, ◌⊎◌, List, length, reverse, find, count_by, slice_index}
use Rattle.std.specs.Prelude.{slice_get, Option, Some, None}
use Rattle.std.specs.List.{fold}
use Rattle.std.specs.Hash as fed
use Rattle.std.specs.Hash.FoldHasher as folding
use Rattle.ground_types.specs.History.{counts_for}
use Rattle.ground_types.specs.declared.entries.Entry.{Entry}

-- the slot at which the walk for an event and point starts
unfoldable pub start : ℕ → ℕ → ℕ → ℕ
start count event at =
    let mixed = fold folding.write (fold folding.write folding.initial (fed.u64 at)) (fed.u32 event)
    in min (folding.finish mixed * count / 2 ^ 64) (count - 1)

-- the entry that a slot names, if it is not empty
abbrev pub entry_at : List Entry → ℕ → Option Entry
entry_at history zero = None
entry_at history (suc place) = slice_get history place

-- the walk for an event and point ends where there is no entry, or one that counts for them
abbrev pub stops : ℕ → ℕ → Option Entry → Bool
stops event at None = true
stops event at (Some entry) = counts_for event at entry

-- the walk for an event and point ends at slot q
abbrev pub stops_at : List Entry → List ℕ → ℕ → ℕ → ℕ → Bool
stops_at history slots event at q = stops event at (entry_at history (slice_index slots q))

-- of some numbers that stop or don't, p is the first one below n that stops
pub record IsFirst (n : ℕ) (stop : ℕ → Bool) (p : ℕ) : Type 0 where
  pub within : p < n
  pub here : stop p ≡ true
  pub before : (q : ℕ) → q < p → stop q ≡ false

-- the walk from s to p, which goes on with 0 behind the last slot, passes q
abbrev pub Passes : ℕ → ℕ → ℕ → Type 0
Passes s p q = ((s ≤ q) × (q < p)) ⊎ ((p < s) × ((s ≤ q) ⊎ (q < p)))

-- the walk from slot s over n slots ends at slot p
pub record IsWalk (n s : ℕ) (stop : ℕ → Bool) (p : ℕ) : Type 0 where
  pub within : p < n
  pub here : stop p ≡ true
  pub passed : (q : ℕ) → q < n → Passes s p q → stop q ≡ false

-- the walk for an event and point ends at slot p
abbrev pub EndsAt : ℕ → List Entry → List ℕ → ℕ → ℕ → ℕ → Type 0
EndsAt n history slots event at p =
    IsWalk n (start n event at) (stops_at history slots event at) p

abbrev pub is_empty : ℕ → Bool
is_empty slot = slot == 0

-- n slots are an index of a history
pub record IsIndex (n : ℕ) (slots : List ℕ) (history : List Entry) : Type 0 where
  pub count : length slots ≡ n
  -- no slot names what is not there
  pub fits : (q : ℕ) → slice_index slots q ≤ length history
  -- the walk for the event and point of an entry that a slot names ends at that slot
  pub met : (event at q : ℕ) (entry : Entry) → entry_at history (slice_index slots q) ≡ Some entry
      → counts_for event at entry ≡ true → EndsAt n history slots event at q
  -- each walk ends at the last entry that counts, or at an empty slot where there is none
  pub last : (event at q : ℕ) → EndsAt n history slots event at q
      → entry_at history (slice_index slots q) ≡ find (counts_for event at) (reverse history)
  -- at most as many slots are in use as there are entries
  pub few : n ≤ count_by is_empty slots + length history
