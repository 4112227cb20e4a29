use Rattle.report_text.proofs.Leads.{still_kept}
use Rattle.report_text.proofs.blocks.put_pieces.Goals as goal

pub returns-clause-kept : goal.returns-clause-kept
returns-clause-kept c =
    still_kept c.put_rows.result c.args.out.now.items c.append.new.out.items _
    c.put_rows.new.out.items c.in_ok-append.ensures.added c.put_rows.ensures.kept
