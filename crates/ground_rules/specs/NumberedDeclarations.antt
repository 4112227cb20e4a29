-- For private functions alone: declarations whose names are numbered.
use Rattle.std.specs.Prelude.{◌≡◌, true, List, length}
use Rattle.std.specs.List.{list_all}
use Rattle.ground_types.specs.declared.program.Domain.{Domain}
use Rattle.ground_types.specs.declared.program.Name.{Name}
use Rattle.decl_known.specs.Sound.{is_sound_domain, is_sound_name}
use Rattle.ground_names.specs.Counted.{has_small_numbers}

-- declarations as `check` gives them, with numbers that fit
pub record AreDeclarations (domains : List Domain) (names : List Name) : Type 0 where
  pub sound_domains : list_all is_sound_domain domains ≡ true
  pub sound_names : list_all (is_sound_name (length domains)) names ≡ true
  pub small_numbers : list_all (has_small_numbers domains) names ≡ true
