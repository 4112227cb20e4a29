-- Public contracts speak by this: the text of commands that is asked for, and which workloads
-- `simulate` runs.
use Rattle.std.specs.Prelude.{ℕ, Bool, true, false, List}
use Rattle.ground_types.specs.declared.entries.Command.{Command}
use Rattle.ground_types.specs.declared.program.Program.{Program}
use Rattle.text_pieces.specs.Lines.{text_of_lines}
use Rattle.report_text.specs.Report.{history_of, end_lines, report_text}

-- the last three lines of the report of commands, alone
abbrev pub end_text : Program → List Command → ℕ → List ℕ
end_text program commands ignored =
    text_of_lines (end_lines program (history_of program.plan commands) ignored)

-- the whole report, or its end alone
abbrev pub asked_text : Bool → Program → List Command → ℕ → List ℕ
asked_text true program commands ignored = report_text program commands ignored
asked_text false program commands ignored = end_text program commands ignored
