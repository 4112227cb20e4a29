use Rattle.std.proofs.Common.{ℕ, List, find, map, ap, ◌∙◌, Bor}
use Rattle.std.specs.Str.{bytes_eq}
use Rattle.rt_base.specs.declared.words.Word.{Word}
use Rattle.ground_types.specs.Sound.{domain_sizes}
use Rattle.decl_known.specs.Gathered.{places_of}
use Rattle.ground_rules.specs.Assignments.{number_at}
use Rattle.ground_rules.proofs.VariableDomains.{domains_of_lent}
use Rattle.ground_rules.proofs.clause.Clause.new.Goals as goal

pub invariant_of-result : goal.invariant_of-result
invariant_of-result c =
    let number = λ (all : List (List ℕ × ℕ)) (variable : Bor Word).
    number_at (find (λ (place : List ℕ × ℕ). bytes_eq place.0 variable.now) all) in
    record {
      variables_are = c.in_ok-variables.ensures;
      domains_are =
          c.in_ok-domains.ensures
          ∙ ap (λ all. map (number (places_of all)) c.as_slice-2.result.now)
          c.as_slice.ensures.value
          ∙ ap (λ all. map (number all) c.as_slice-2.result.now) c.in_ok-places.ensures
          ∙ ap (map (number _)) c.as_slice-2.ensures.value
          ∙ domains_of_lent (λ (word : Bor Word). word.now) _ c.in_ok-variables.variables.items;
      sizes_are = c.in_ok-sizes.ensures ∙ ap (domain_sizes c.args.known.now.domains.now)
          c.as_slice-3.ensures.value;
      sound_domains = c.requires.sound_domains;
      sound_names = c.requires.sound_names;
      small_numbers = c.requires.small_numbers;
    }
