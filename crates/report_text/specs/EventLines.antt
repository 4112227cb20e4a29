-- For private functions alone: the line of a derived event.
use Rattle.std.specs.Prelude.{ℕ, ◌==◌, if◌then◌else◌, List, [], ◌∷◌, length}
use Rattle.report_text.specs.Report.{event_line}

-- a line for an event that occurs
abbrev pub event_lines : List ℕ → List ℕ → List (List ℕ)
event_lines atom points = if length points == 0 then [] else (event_line atom points ∷ [])
