-- For private functions alone: what the tests of a rule are lent of its statement.
use Rattle.std.specs.Prelude.{◌≡◌, ℕ, ◌≤◌, ◌++◌, List, length, take, drop, flat_map}
use Rattle.ground_types.specs.declared.program.Name.{Name}
use Rattle.rule_forms.specs.Forms.{PlainForm, conditions_of}
use Rattle.decl_known.specs.declared.mentions.Mention.{Mention as Lent}
use Rattle.decl_known.specs.Mentions.{head_of, body_mentions, leaves_of, mentions}
use Rattle.decl_known.specs.Rules.{places}
use Rattle.decl_known.specs.Gathered.{mentions_of, places_of}
use Rattle.domain_decl.specs.declared.rules.Parts.{Parts}

-- these are the atoms of a statement, and so many of them stand before its leaves
pub record AreAtoms (form : PlainForm) (atoms : List Lent) (count : ℕ) : Type 0 where
  pub all : mentions_of atoms ≡ mentions form
  pub within : count ≤ length atoms
  pub others : mentions_of (take count atoms) ≡ head_of form
      ++ flat_map body_mentions (conditions_of form)
  pub leaves : mentions_of (drop count atoms) ≡ leaves_of form

-- these are the atoms of a statement and the places of its variables, over these names
pub record ArePartsOf (names : List Name) (form : PlainForm) (parts : Parts) : Type 0 where
  pub atoms : AreAtoms form parts.atoms.now parts.others
  pub variables : places_of parts.variables.now ≡ places names form
