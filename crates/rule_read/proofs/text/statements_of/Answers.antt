use Rattle.std.proofs.Common.{◌∷◌, [], ap, ◌∙◌, map, arith, length-append}
use Rattle.rule_read.specs.Tokens.{pieces}
use Rattle.rule_read.specs.Lexed.{tokens}
use Rattle.rule_read.specs.Sentences.{sentences}
use Rattle.rule_forms.specs.Forms.{plain, plain_form}
use Rattle.rule_read.specs.Whole.{forms_of, after_first}
use Rattle.rule_read.proofs.Wholes.{dot_formed, next_statement}
use Rattle.rule_read.proofs.text.statements_of.Goals as goal

pub loop-statements-preserved : goal.loop-statements-preserved
loop-statements-preserved c =
    let ended = rw c.in-Dot.is at c.in_ok-ending.ensures.ended in
    let shorter = rw c.in-Dot.is at c.in_ok-ending.ensures.shorter in
    let front = c.loop-statements.statements.items in
    let now = sentences (pieces c.statement.new.self.line c.statement.new.self.rest.now) in
    let formed = rw c.as_slice-in-Dot.ensures.value at c.in-Ok.ensures in
    let step = ap forms_of ended.0 ∙ dot_formed c.in_ok-ending.line
    (tokens c.statement.new.found.items) now (plain_form c.in-Ok.form) formed in
    let longer = length-append front (record { line = c.in_ok-ending.line; form = c.in-Ok.form }
    ∷ []) in
    let few = c.loop-statements.invariant.few in
    record {
      said = rw c.in_ok-push-in-Ok.ensures.items (c.loop-statements.invariant.said
          ∙ ap (after_first (map plain front)) step ∙ next_statement front
          (record { line = c.in_ok-ending.line; form = c.in-Ok.form }) (forms_of now));
      fine = c.loop-statements.invariant.fine ∙ ended.1;
      few = rw c.in_ok-push-in-Ok.ensures.items (omega (arith, longer, few, shorter));
    }
