-- For private functions alone: what may be wrong with an atom.
use Rattle.std.specs.Prelude.{Bool, List}
use Rattle.ground_types.specs.declared.program.Domain.{Domain}
use Rattle.ground_types.specs.declared.program.Name.{Name}
use Rattle.decl_known.specs.Mentions.{Mention}
use Rattle.decl_known.specs.Rules.{names_undeclared, is_of_wrong_kind, has_wrong_arity}
use Rattle.decl_known.specs.Rules.{has_undeclared_word}
use Rattle.domain_decl.specs.declared.rules.Wrong.{Wrong}
use Rattle.domain_decl.specs.declared.rules.Wrong.TheVariants as wrong

abbrev pub is_wrong : Wrong → List Domain → List Name → Mention → Bool
is_wrong wrong.Undeclared domains names = names_undeclared domains names
is_wrong wrong.Kind domains names = is_of_wrong_kind names
is_wrong wrong.Arity domains names = has_wrong_arity names
is_wrong wrong.Words domains names = has_undeclared_word domains names
