use Rattle.report_text.proofs.Leads.{still_kept}
use Rattle.report_text.proofs.answers.put_lines.Goals as goal

pub returns-clause-kept : goal.returns-clause-kept
returns-clause-kept c =
    still_kept c.put_asked_block.result c.args.out.now.items c.append.new.out.items _
    c.put_asked_block.new.out.items c.in_ok-append.ensures.added c.put_asked_block.ensures.kept
