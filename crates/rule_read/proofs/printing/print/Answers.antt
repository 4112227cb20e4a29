use Rattle.std.proofs.Common.{ℕ, map, ap, sym, subst, ◌∙◌}
use Rattle.std.specs.Global.{Vec}
use Rattle.std.specs.Str.{IsUtf8}
use Rattle.std.proofs.lemmas.Bool.{false≢true}
use Rattle.rule_forms.specs.Forms.{plain_form}
use Rattle.rule_read.specs.Grammar.{Spells}
use Rattle.rule_read.specs.Canonical.{text_of, on_lines}
use Rattle.rule_read.proofs.Spelled.{reading_of_spelled}
use Rattle.rule_read.proofs.Texts.{forms_sound, text_is_utf8, text_spelled}
use Rattle.rule_read.proofs.printing.print.Goals as goal

pub unreachable-requires : goal.unreachable-requires
unreachable-requires c =
    let forms = map (λ s. plain_form s.form) c.args.syntax.now.statements in
    let sound = forms_sound c.args.syntax.now.statements c.requires.forms in
    let text = c.in_ok-print_forms.ensures ∙ ap (λ ss. text_of (map (λ s. plain_form s.form) ss))
    c.as_slice.ensures in
    absurd (false≢true (c.in-Err.ensures.succeeds
    (subst IsUtf8 (sym text) (text_is_utf8 forms sound))))

pub returns-clause-spelled : goal.returns-clause-spelled
returns-clause-spelled c =
    let forms = map (λ s. plain_form s.form) c.args.syntax.now.statements in
    let sound = forms_sound c.args.syntax.now.statements c.requires.forms in
    let text = ap (λ (v : Vec ℕ). v.items) c.in-Ok.ensures.ok ∙ c.in_ok-print_forms.ensures
    ∙ ap (λ ss. text_of (map (λ s. plain_form s.form) ss)) c.as_slice.ensures in
    subst (λ bytes. Spells bytes (on_lines 1 forms)) (sym text) (text_spelled forms sound)

pub returns-clause-again : goal.returns-clause-again
returns-clause-again c = λ fits. reading_of_spelled _ _ fits (returns-clause-spelled c)
