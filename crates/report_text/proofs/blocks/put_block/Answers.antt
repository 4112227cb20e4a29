use Rattle.std.proofs.Common.{List, ℕ, ◌≡◌, ◌++◌, subst}
use Rattle.std.proofs.lemmas.Result.{on_ok_weaker}
use Rattle.text_pieces.specs.Lines.{text_of_lines}
use Rattle.report_text.specs.Printed.{block_in}
use Rattle.report_text.proofs.Leads.{behind_nothing}
use Rattle.report_text.proofs.blocks.put_block.Goals as goal

pub returns-else-is_err-clause-added : goal.returns-else-is_err-clause-added
returns-else-is_err-clause-added c =
    on_ok_weaker c.put_pieces-put.result
    (subst (λ (lines : List (List ℕ)). c.put_pieces-put.new.out.items
    ≡ c.args.out.now.items ++ text_of_lines lines)
    (behind_nothing (block_in c.args.publication.now)))
    c.put_pieces-put.ensures.added
