use Rattle.std.proofs.Common.{◌≡◌, ℕ, List, map, take}
use Rattle.rule_forms.specs.Forms.{plain}
use Rattle.ground_types.specs.Words.{has, domain_words}
use Rattle.domain_decl.specs.Contents.{domains_of}
use Rattle.domain_decl.proofs.declarations.domain_set.Given as goal

abbrev pub invariant-loop-statement : goal.invariant-loop-statement
invariant-loop-statement l = (word : List ℕ) → has l.set word
    ≡ has (domain_words (domains_of (map plain (take l.statement-index l.statements)))) word
