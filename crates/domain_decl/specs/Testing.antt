-- For private functions alone: when a test of a rule answers as it has to, and what is left to be
-- tested of a statement.
use Rattle.std.specs.Prelude.{◌≡◌, List, [], ◌∷◌, Option, Some, None, Result, Ok, Err}
use Rattle.std.specs.List.{list_any}
use Rattle.ground_types.specs.declared.program.Domain.{Domain}
use Rattle.ground_types.specs.declared.program.Name.{Name}
use Rattle.rule_forms.specs.Forms.{PlainForm}
use Rattle.decl_known.specs.declared.checked.DeclRefused.{DeclRefused}
use Rattle.decl_known.specs.declared.checked.DeclRefused.TheVariants as refused
use Rattle.decl_known.specs.Faults.{Fault, first_fault}
use Rattle.decl_known.specs.Mentions.{mentions}
use Rattle.decl_known.specs.Rules.{has_wrong_arity, has_undeclared_word, has_clash}
use Rattle.decl_known.specs.Rules.{has_loose_variable}

-- a test passed, or gave the refusal, unless memory ran out
abbrev pub Tests : Result (Unit {0}) DeclRefused → Option DeclRefused → Type 0
Tests (Ok passed) refusal = refusal ≡ None
Tests (Err refused.OutOfMemory) refusal = Unit {0}
Tests (Err given) refusal = refusal ≡ Some given

-- the first rule that a statement breaks, where its first four tests have passed
abbrev pub word_fault : List Domain → List Name → PlainForm → Option Fault
word_fault domains names form = first_fault (
    (list_any (has_wrong_arity names) (mentions form), refused.Arity)
    ∷ (list_any (has_undeclared_word domains names) (mentions form), refused.Undeclared)
    ∷ (has_clash names form, refused.Clash)
    ∷ (has_loose_variable form, refused.Loose)
    ∷ [])
