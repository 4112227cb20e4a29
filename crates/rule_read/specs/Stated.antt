-- For private functions alone: what reading the statements of a text that is not too long gives.
use Rattle.std.specs.Prelude.{◌≡◌, ℕ, ◌≤◌, List, length, map, None, Some, Result, Ok, Err}
use Rattle.std.specs.Global.{Vec}
use Rattle.rule_forms.specs.declared.syntax.Statement.{Statement}
use Rattle.rule_read.specs.declared.refused.ReadRefused.{ReadRefused}
use Rattle.rule_read.specs.declared.refused.ReadRefused.TheVariants as refused
use Rattle.rule_read.specs.Sentences.{sentences_of, bad_byte_of}
use Rattle.rule_forms.specs.Forms.{plain}
use Rattle.rule_read.specs.Whole.{forms_of, BadStatement, Statements}

-- the same as Answers, part by part, and no more statements than bytes
abbrev pub States : List ℕ → Result (Vec Statement) ReadRefused → Type 0
States text (Ok found) =
    (bad_byte_of text ≡ None) × (forms_of (sentences_of text) ≡ Statements (map plain found.items))
    × (length found.items ≤ length text)
States text (Err refused.TooLong) = ⊥
States text (Err (refused.BadByte line)) = bad_byte_of text ≡ Some line
States text (Err (refused.BadStatement line)) = (bad_byte_of text ≡ None)
    × (forms_of (sentences_of text) ≡ BadStatement line)
States text (Err refused.OutOfMemory) = Unit {0}
