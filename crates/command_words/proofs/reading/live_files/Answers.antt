use Rattle.std.proofs.Common.{rules, ◌∙◌, sym}
use Rattle.command_words.proofs.Asking.{live_task, not_live}
use Rattle.command_words.proofs.reading.live_files.Goals as goal

pub returns : goal.returns
returns c = live_task c.args.description.now c.args.clock.now c.args.scripts.now c.args.feeders
    c.args.workers _ _ (sym c.are_live.ensures ∙ search rules) c.in_ok-copy.ensures
    c.in_ok-copy-2.ensures

pub returns-then-not-are_live : goal.returns-then-not-are_live
returns-then-not-are_live c = not_live c.args.description.now c.args.clock.now c.args.scripts.now
    c.args.feeders c.args.workers (sym c.are_live.ensures ∙ search rules)
