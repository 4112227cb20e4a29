-- Numbers of values and of entities are small.
use Rattle.std.proofs.Common.{◌≡◌, ℕ, zero, suc, ◌<◌, ◌≤◌, ◌^◌, nat_le, true, ◌&&◌, List, [], ◌∷◌}
use Rattle.std.proofs.Common.{length, Some, refl, arith}
use Rattle.std.specs.List.{list_all}
use Rattle.std.proofs.lemmas.Bool.{and_parts, leb-true, eqb-true}
use Rattle.std.proofs.lemmas.List.Quantifiers.{position-Some}
use Rattle.std.specs.Str.{bytes_eq}
use Rattle.rt_base.specs.Kinds.{is_name, is_constant}
use Rattle.ground_types.specs.Sound.{is_distinct, are_constants}
use Rattle.ground_types.specs.declared.program.Domain.{Domain}
use Rattle.ground_types.specs.declared.program.Name.{Name}
use Rattle.ground_types.specs.declared.program.NameKind.{NameKind}
use Rattle.ground_types.specs.declared.program.NameKind.TheVariants as name_kind
use Rattle.ground_names.specs.Counted.{has_small_numbers}
use Rattle.ground_names.proofs.FirstFound.{found_passes}
use Rattle.ground_types.specs.Words.{place_in, declaration, entities_of}
use Rattle.decl_known.specs.Sound.{is_sound_domain, is_sound_name, has_sound_values}

-- ---- values

values_by_kind : (kind : NameKind) (values : List (List ℕ)) → has_sound_values kind values ≡ true
    → length values ≤ 64
values_by_kind name_kind.Input values h = let none = eqb-true (length values) 0 h in
    omega (arith, none)
values_by_kind name_kind.Simple values h = leb-true (length values) 64
    (and_parts _ (nat_le (length values) 64) h).1
values_by_kind name_kind.Static values h = leb-true (length values) 64
    (and_parts _ (nat_le (length values) 64) h).1
values_by_kind name_kind.Derived values h = let none = eqb-true (length values) 0 h in
    omega (arith, none)

-- the number of a value of a declared name
pub value_small : (domains : ℕ) (names : List Name) (word value : List ℕ) (name : Name) (i : ℕ)
    → list_all (is_sound_name domains) names ≡ true → declaration names word ≡ Some name
    → place_in name.values value ≡ Some i → i < 2 ^ 32
value_small domains names word value name i sound found at =
    let one = found_passes (λ name. bytes_eq name.word word) (is_sound_name domains) names name
    found sound in
    let few = values_by_kind name.kind name.values
    (and_parts _ (has_sound_values name.kind name.values) one).1 in
    let inside = (position-Some (λ other. bytes_eq other value) name.values i [] at).0 in
    omega (arith, few, inside)

-- ---- entities

pub record AreFew (words : List (List ℕ)) : Type 0 where
  pub distinct : is_distinct words ≡ true
  pub few : length words ≤ 4096

few_in_domain : (domain : Domain) → is_sound_domain domain ≡ true → AreFew domain.entities
few_in_domain domain h =
    let parts = and_parts (is_name domain.word && are_constants domain.entities)
    (nat_le (length domain.entities) 4096) h in
    let constants = (and_parts (is_name domain.word) (are_constants domain.entities) parts.0).1 in
    record {
      distinct = (and_parts (list_all is_constant domain.entities) (is_distinct domain.entities)
          constants).1;
      few = leb-true (length domain.entities) 4096 parts.1;
    }

pub few_entities : (domains : List Domain) (d : ℕ) → list_all is_sound_domain domains ≡ true
    → AreFew (entities_of domains d)
few_entities [] zero h = record { distinct = refl; few = omega arith }
few_entities [] (suc d) h = record { distinct = refl; few = omega arith }
few_entities (x ∷ xs) zero h = few_in_domain x (and_parts (is_sound_domain x)
    (list_all is_sound_domain xs) h).0
few_entities (x ∷ xs) (suc d) h = few_entities xs d (and_parts (is_sound_domain x)
    (list_all is_sound_domain xs) h).1

-- the number of an entity of a domain
pub entity_small : (domains : List Domain) (d : ℕ) (word : List ℕ) (i : ℕ)
    → list_all is_sound_domain domains ≡ true → place_in (entities_of domains d) word ≡ Some i
    → i < 2 ^ 32
entity_small domains d word i sound at =
    let few = (few_entities domains d sound).few in
    let inside = (position-Some (λ other. bytes_eq other word) (entities_of domains d) i [] at).0 in
    omega (arith, few, inside)

-- ---- ground events and units

-- those of a declared name have small numbers
pub found_small : (domains : List Domain) (names : List Name) (word : List ℕ) (name : Name)
    → list_all (has_small_numbers domains) names ≡ true → declaration names word ≡ Some name
    → has_small_numbers domains name ≡ true
found_small domains names word name small found = found_passes (λ other. bytes_eq other.word word)
    (has_small_numbers domains) names name found small
