use Rattle.std.proofs.Common.{◌≡◌, Err, sym, subst, rules, arith, ◌≤◌}
use Rattle.stream_read.specs.Left.{left}
use Rattle.stream_read.specs.Scripts.{most, records_of, script_of, Answers}
use Rattle.stream_read.proofs.ScriptSteps.{begins, ended}
use Rattle.stream_read.proofs.reading.gather_all.Goals as goal

pub loop-count-init : goal.loop-count-init
loop-count-init c =
    let fresh = c.new-gathered.ensures in
    let none : c.new-gathered.result.ignored ≤ 0 = rw fresh (omega arith) in
    record {
      reading = c.reader_of-reader.ensures.reading;
      whole = begins c.args.program.now c.args.shape c.new-gathered.result _ _ fresh
          c.reader_of-reader.ensures.all;
      counted = none;
    }

pub returns-in_err-at_end : goal.returns-in_err-at_end
returns-in_err-at_end c =
    let same : c.from_residual-in_err-at_end.result ≡ Err c.in_err-at_end.field-0.0 =
    search (rules, c.from_residual-in_err-at_end.ensures) in
    let full : c.loop-count.count ≡ most = omega arith in
    record {
      exact = subst (λ r. Answers r (script_of c.args.program.now c.args.shape
          (records_of c.args.text.now))) (sym same)
          (ended c.args.program.now c.args.shape (left c.loop-count.reader) c.loop-count.count
          c.loop-count.gathered _ c.in_err-at_end.field-0.0 full c.in_err-at_end.ensures
          c.loop-count.invariant.whole);
    }
