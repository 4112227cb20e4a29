use Rattle.std.proofs.Common.{◌≡◌, ◌+◌, ◌≤◌, length, map}
use Rattle.rule_read.specs.Tokens.{pieces}
use Rattle.rule_read.specs.Sentences.{sentences, sentences_of, bad_byte_of, first_bad}
use Rattle.rule_forms.specs.Forms.{plain}
use Rattle.rule_read.specs.Whole.{forms_of, after_first}
use Rattle.rule_read.proofs.text.statements_of.Given as goal

abbrev pub invariant-loop-statements : goal.invariant-loop-statements
invariant-loop-statements l = record {
  said : forms_of (sentences_of l.text) ≡ after_first (map plain l.statements.items)
      (forms_of (sentences (pieces l.lexer.line l.lexer.rest.now)));
  fine : bad_byte_of l.text ≡ first_bad (pieces l.lexer.line l.lexer.rest.now);
  few : length l.statements.items + length l.lexer.rest.now ≤ length l.text;
}

abbrev pub decreases-loop-statements : goal.decreases-loop-statements
decreases-loop-statements l = length l.lexer.rest.now
