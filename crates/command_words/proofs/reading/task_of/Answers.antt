use Rattle.std.proofs.Common.{◌∙◌, drop, Option, subst}
use Rattle.std.proofs.lemmas.Result.{IfOk-weaker}
use Rattle.clap.specs.declared.parser.matches.ArgMatches.{ArgMatches}
use Rattle.command_words.specs.Words.{texts, given_by}
use Rattle.command_words.specs.Matching.{plain_given, AreMatches}
use Rattle.command_words.proofs.Asking.{none_asked, some_asked}
use Rattle.command_words.proofs.reading.task_of.Goals as goal

pub returns-in-Some-2 : goal.returns-in-Some-2
returns-in-Some-2 c =
    let words = c.args.words.now in
    let are = subst (λ (m : Option ArgMatches). AreMatches (given_by (drop 1 (texts words))) m)
    c.in-Some-2.is c.in_ok-matches.ensures in
    IfOk-weaker c.asked.result _ _ (λ task is. is
    ∙ some_asked words c.in-Some.command.now c.in-Some.ensures.value c.in-Some-2.matches
    (plain_given c.given_of.result) are c.given_of.ensures) c.asked.ensures

pub returns-in-None : goal.returns-in-None
returns-in-None c =
    let words = c.args.words.now in
    let are = subst (λ (m : Option ArgMatches). AreMatches (given_by (drop 1 (texts words))) m)
    c.in-None.is c.in_ok-matches.ensures in
    none_asked (texts words) are
