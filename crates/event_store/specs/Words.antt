-- Public contracts speak by this: what the last word of a list says of an event at a point.
use Rattle.std.specs.Prelude.{ℕ, Bool, ◌&&◌, ◌==◌, List, reverse, find, Option, unwrap_or}
use Rattle.std.specs.Prelude.{option_map}
use Rattle.event_store.specs.declared.told.Told.{Told}

-- the word is on this event at this point
abbrev pub is_on : ℕ → ℕ → Told → Bool
is_on event t word = (word.event == event) && (word.at == t)

-- whether the event stands at the point by the last word on them, where there is one
abbrev pub last_word : List Told → ℕ → ℕ → Option Bool
last_word told event t = option_map (λ word. word.stands) (find (is_on event t) (reverse told))

-- and whether it does, where it stood or not before the words
abbrev pub after_words : List Told → ℕ → ℕ → Bool → Bool
after_words told event t before = unwrap_or (last_word told event t) before
