-- No word of a sound program stands twice where it may not.
use Rattle.std.proofs.Common.{◌≡◌, ℕ, zero, suc, ◌<◌, true, List, [], ◌∷◌, length, get_or, ap, ◌∙◌}
use Rattle.std.proofs.Common.{arith}
use Rattle.std.specs.List.{list_all}
use Rattle.rt_base.specs.Kinds.{is_name, is_constant}
use Rattle.ground_types.specs.Sound.{IsSound, is_distinct, are_constants, declared_words}
use Rattle.ground_types.specs.declared.program.Domain.{Domain}
use Rattle.ground_types.specs.declared.program.Program.{Program}
use Rattle.ground_types.proofs.Members.{and_left, and_right}
use Rattle.ground_types.specs.Words.{domain_words, name_words}
use Rattle.word_table.proofs.LookUps.{is_distinct-back}

pub distinct_names : (program : Program) → IsSound program → is_distinct (name_words program.names)
    ≡ true
distinct_names program sound =
    is_distinct-back (domain_words program.domains) (name_words program.names)
    (and_right (list_all is_name (declared_words program)) (is_distinct (declared_words program))
    sound.names)

-- the entities of each domain
pub distinct_at : (domains : List Domain) (i : ℕ) (d : Domain)
    → list_all (λ domain. are_constants domain.entities) domains ≡ true
    → i < length domains → d ≡ get_or domains i d → is_distinct d.entities ≡ true
distinct_at [] i d all inside at = absurd (omega (arith, inside))
distinct_at (x ∷ xs) zero d all inside at =
    ap (λ (y : Domain). is_distinct y.entities) at
    ∙ and_right (list_all is_constant x.entities) (is_distinct x.entities)
    (and_left (are_constants x.entities) (list_all (λ domain. are_constants domain.entities) xs)
    all)
distinct_at (x ∷ xs) (suc i) d all inside at =
    distinct_at xs i d (and_right (are_constants x.entities)
    (list_all (λ domain. are_constants domain.entities) xs) all) (omega (arith, inside)) at
