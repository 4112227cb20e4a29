-- Public contracts speak by this: inputs and a sink in memory.
use Rattle.std.specs.Prelude.{ℕ, ◌+◌, ◌-◌, ◌^◌, min, Bool, not, ◌&&◌, ◌||◌, ◌==◌, if◌then◌else◌}
use Rattle.std.specs.Prelude.{List, [], ◌∷◌, length, Option, Some, None, is_none, Vec}
use Rattle.std.specs.List.{list_any}
use Rattle.std.specs.Str.{bytes_eq}
use Rattle.std.specs.declared.alloc.Global.{Global}

-- files, the calls that fail, how many calls there were, and how many failed
pub record FilesInMemory : Type 0 where
  pub files : List (List ℕ × Vec ℕ Global)
  pub failing : List ℕ
  pub calls : ℕ
  pub faults : ℕ

-- the bytes of the first file of this name
abbrev pub bytes_of : List (List ℕ × Vec ℕ Global) → List ℕ → Option (List ℕ)
bytes_of [] name = None
bytes_of (file ∷ rest) name = if bytes_eq file.0 name then Some file.1.items else bytes_of rest name

-- one more, where the greatest u64 is not reached
abbrev pub one_more : ℕ → ℕ
one_more n = min (n + 1) (2 ^ 64 - 1)

-- the call is one that fails
abbrev pub is_chosen : List ℕ → ℕ → Bool
is_chosen failing number = list_any (λ call. call == number) failing

-- the next read fails: its call is chosen, or the name is not there
abbrev pub read_fails : FilesInMemory → List ℕ → Bool
read_fails held name = is_chosen held.failing held.calls || is_none (bytes_of held.files name)

-- after a read, which may have failed
abbrev pub after_read : Bool → FilesInMemory → FilesInMemory
after_read fails held = record held {
  calls = one_more held.calls;
  faults = if fails
      then one_more held.faults else held.faults;
}

-- the bytes taken, the most that one call takes, the room in all, the calls that fail, how many
-- calls there were, and how many failed
pub record SinkInMemory : Type 0 where
  pub bytes : List ℕ
  pub piece : ℕ
  pub room : ℕ
  pub failing : List ℕ
  pub calls : ℕ
  pub faults : ℕ

-- how much room is left
abbrev pub room_left : SinkInMemory → ℕ
room_left sink = sink.room - length sink.bytes

-- the next write fails: its call is chosen, or there are bytes and no room
abbrev pub write_fails : SinkInMemory → List ℕ → Bool
write_fails sink bytes = is_chosen sink.failing sink.calls || (not (length bytes == 0)
    && (room_left sink == 0))

-- how many bytes a write takes that does not fail
abbrev pub taken_of : SinkInMemory → List ℕ → ℕ
taken_of sink bytes = min (min sink.piece (room_left sink)) (length bytes)

-- after a write, which may have failed, with these bytes taken in all
abbrev pub after_write : Bool → List ℕ → SinkInMemory → SinkInMemory
after_write fails bytes sink = record sink {
  bytes = bytes;
  calls = one_more sink.calls;
  faults =
      if fails then one_more sink.faults else sink.faults;
}
