use Rattle.std.proofs.Common.{ℕ, ◌++◌, ap, ◌∙◌}
use Rattle.std.specs.Global.{Vec}
use Rattle.rule_read.specs.Canonical.{text_of}
use Rattle.decl_known.specs.Checked.{plain_checked}
use Rattle.ground_text.specs.GroundText.{program_text}
use Rattle.ground_text.proofs.GroundTexts.{forms_are}
use Rattle.ground_text.proofs.printing.ground_text.Goals as goal

pub returns : goal.returns
returns c =
    λ of_name made.
    c.in_ok-put_program.ensures of_name made
    ∙ ap (λ text. text ++ program_text (plain_checked c.args.checked.now) of_name)
    (ap (λ (bytes : Vec ℕ). bytes.items) c.into_bytes-out.ensures.value
    ∙ c.in_ok-print.ensures.canonical
    ∙ ap text_of (forms_are c.args.syntax.now.statements))
