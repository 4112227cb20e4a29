use Rattle.std.proofs.Common.{◌∙◌, ap, subst, inl, inr, sym}
use Rattle.clap.specs.Simple.{HasMatchesOf, App}
use Rattle.clap.specs.Values.{kind_of}
use Rattle.clap.specs.Kinds.{IsAmong}
use Rattle.clap.specs.Faults.{fault_of, is_simple_and_free}
use Rattle.command_words.specs.Words.{texts}
use Rattle.command_words.proofs.Grammar.{is_plain}
use Rattle.command_words.proofs.Ending.{ok_answer, err_answer}
use Rattle.command_words.proofs.matching.matches_of.Goals as goal

pub returns-in-Ok : goal.returns-in-Ok
returns-in-Ok c =
    let is = c.in_ok-command.ensures in
    let words = texts c.args.words.now in
    let kinds = c.in-Ok.ensures.kinds (ap is_simple_and_free is ∙ is_plain) in
    ok_answer words c.in-Ok.matches c.requires
    (ap (λ (a : App). fault_of a words) (sym is) ∙ kinds)
    (subst (λ (a : App). HasMatchesOf a words c.in-Ok.matches) is c.in-Ok.ensures.matches)

pub returns : goal.returns
returns c =
    let is = c.in_ok-command.ensures in
    let words = texts c.args.words.now in
    let kinds = c.in-Err.ensures.kinds (ap is_simple_and_free is ∙ is_plain) in
    elim kinds [
      | inl memory ↦ absurd (c.in_default.not-OutOfMemory (c.kind.ensures ∙ memory))
      | inr among ↦ err_answer words (kind_of c.in-Err.error) c.requires
          (subst (λ (a : App). IsAmong (kind_of c.in-Err.error) (fault_of a words)) is among)
    ]
