use Rattle.delay_revise.proofs.Touching.{touched_are}
use Rattle.delay_revise.proofs.laws.touched_law.Goals as goal

pub returns : goal.returns
returns c = λ program history k values units rule cached store sound fits done old_rows old_events
    new_rows new_events.
    touched_are program history k units cached store sound old_rows old_events new_rows new_events
    values rule fits done
