-- The set of the entities of each domain.
use Rattle.std.proofs.Common.{◌≡◌, ℕ, List, Option, Some, None, refl}
use Rattle.std.proofs.lemmas.Slice.Zip.{AllZip-left, AllZip-right}
use Rattle.std.specs.List.{slice_get, AllZip}
use Rattle.std.specs.Option.{MatchOption, IsSomeAnd}
use Rattle.ground_types.specs.declared.program.Domain.{Domain}
use Rattle.ground_types.specs.Words.{entities_in}
use Rattle.word_table.specs.Sets.{IsSetOf}
use Rattle.decl_known.specs.Known.{words_in, AreEntities}

abbrev pub IsOfDomain : List (List ℕ) → Domain → Type 0
IsOfDomain set domain = IsSetOf set domain.entities

by_place : (o : Option (List (List ℕ))) (d : Option Domain)
    → MatchOption o (Unit {0}) (λ set. IsSomeAnd d (IsOfDomain set))
    → MatchOption d (Unit {0}) (λ domain. IsSomeAnd o (λ set. IsOfDomain set domain))
    → IsSetOf (words_in o) (entities_in d)
by_place None None p q = record { once = refl; same = λ word. refl; distinct = λ h. refl }
by_place None (Some d) p q = absurd q
by_place (Some s) None p q = absurd p
by_place (Some s) (Some d) p q = p

pub sets_by_place : (sets : List (List (List ℕ))) (domains : List Domain)
    → AllZip IsOfDomain sets domains → AreEntities sets domains
sets_by_place sets domains all = λ d. by_place (slice_get sets d) (slice_get domains d)
    (AllZip-left IsOfDomain sets domains all d) (AllZip-right IsOfDomain sets domains all d)
