-- Public contracts speak by this: what the atoms and places that are gathered from a rule say.
use Rattle.std.specs.Prelude.{ℕ, Bool, false, not, List, map, option_copied}
use Rattle.std.specs.Str.{bytes_eq}
use Rattle.rule_forms.specs.declared.form.Term.{Term}
use Rattle.rule_forms.specs.declared.form.Term.TheVariants as term
use Rattle.decl_known.specs.declared.mentions.Role.{Role as CodeRole}
use Rattle.decl_known.specs.declared.mentions.Role.TheVariants as role
use Rattle.decl_known.specs.declared.mentions.Mention.{Mention as Lent}
use Rattle.decl_known.specs.declared.variables.Place.{Place}
use Rattle.ground_types.specs.Words.{has}
use Rattle.decl_known.specs.Mentions.{Role, SimpleFluent, StaticFluent, DerivedEvent, AnyEvent}
use Rattle.decl_known.specs.Mentions.{AnyFluent, Mention}

-- what an atom has to name, as the definitions have it
abbrev pub role_of : CodeRole → Role
role_of role.SimpleFluent = SimpleFluent
role_of role.StaticFluent = StaticFluent
role_of role.DerivedEvent = DerivedEvent
role_of role.AnyEvent = AnyEvent
role_of role.AnyFluent = AnyFluent

abbrev pub mention_of : Lent → Mention
mention_of lent = record {
  role = role_of lent.role;
  atom = lent.atom.now;
  value = option_copied lent.value;
}

abbrev pub mentions_of : List Lent → List Mention
mentions_of lent = map mention_of lent

abbrev pub place_of : Place → List ℕ × ℕ
place_of place = (place.variable.now, place.domain)

abbrev pub places_of : List Place → List (List ℕ × ℕ)
places_of lent = map place_of lent
