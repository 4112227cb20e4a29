use Rattle.std.proofs.Common.{◌≡◌, ◌≤◌}
use Rattle.stream_read.specs.Gathering.{script_from}
use Rattle.stream_read.specs.Left.{left, IsReading}
use Rattle.stream_read.specs.Scripts.{records_of, script_of}
use Rattle.stream_read.proofs.reading.gather_all.Given as goal

abbrev pub invariant-loop-count : goal.invariant-loop-count
invariant-loop-count l = record {
  reading : IsReading l.reader;
  whole : script_from l.program l.shape l.count l.gathered (left l.reader) ≡ script_of l.program
      l.shape (records_of l.text);
  counted : l.gathered.ignored ≤ l.count;
}
