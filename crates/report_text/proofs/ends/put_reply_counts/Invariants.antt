use Rattle.std.proofs.Common.{◌≡◌, ◌++◌, take}
use Rattle.std.specs.Prelude.{flat_map}
use Rattle.report_text.specs.Report.{reply_count_text}
use Rattle.report_text.proofs.ends.put_reply_counts.Given as goal

abbrev pub invariant-loop-reply : goal.invariant-loop-reply
invariant-loop-reply l = l.out.items ≡ l.fn.out.items ++ flat_map (reply_count_text l.history)
    (take l.reply-index l.wanted)
