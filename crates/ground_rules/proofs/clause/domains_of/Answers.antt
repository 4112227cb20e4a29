use Rattle.std.proofs.Common.{ℕ, List, [], ◌∷◌, ◌++◌, find, ap, ◌∙◌, Bor}
use Rattle.std.specs.Str.{bytes_eq}
use Rattle.rt_base.specs.declared.words.Word.{Word}
use Rattle.decl_known.specs.Gathered.{places_of}
use Rattle.ground_rules.specs.Assignments.{number_at}
use Rattle.ground_rules.proofs.Occurring.{one_more_mapped}
use Rattle.ground_rules.proofs.clause.domains_of.Goals as goal

pub loop-variable-preserved : goal.loop-variable-preserved
loop-variable-preserved c =
    let number = λ (variable : Bor Word).
    number_at (find (λ (place : List ℕ × ℕ). bytes_eq place.0 variable.now)
    (places_of c.args.places.now)) in
    one_more_mapped number c.args.variables.now c.loop-variable.variable-index
    c.variable-item.result c.loop-variable.domains.items c.push.new.self.items
    c.loop-variable-test.true c.variable-item.is (c.in_ok-push.ensures.items
    ∙ ap (λ n. c.loop-variable.domains.items ++ (n ∷ [])) c.domain_among.ensures)
    c.loop-variable.invariant
