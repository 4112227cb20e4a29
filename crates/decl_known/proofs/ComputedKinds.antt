-- What is named as a fluent or a derived event is no input event.
use Rattle.std.proofs.Common.{◌≡◌, true, false, true≢false, refl, sym}
use Rattle.ground_types.specs.Sound.{is_input}
use Rattle.ground_types.specs.declared.program.NameKind.{NameKind}
use Rattle.ground_types.specs.declared.program.NameKind.TheVariants as name_kind
use Rattle.decl_known.specs.Mentions.{SimpleFluent, StaticFluent, AnyFluent, DerivedEvent, fits}

pub simple_computed : (kind : NameKind) → fits SimpleFluent kind ≡ true → is_input kind ≡ false
simple_computed name_kind.Input e = absurd (true≢false (sym e))
simple_computed kind e = refl

pub static_computed : (kind : NameKind) → fits StaticFluent kind ≡ true → is_input kind ≡ false
static_computed name_kind.Input e = absurd (true≢false (sym e))
static_computed kind e = refl

pub derived_computed : (kind : NameKind) → fits DerivedEvent kind ≡ true → is_input kind ≡ false
derived_computed name_kind.Input e = absurd (true≢false (sym e))
derived_computed kind e = refl

pub fluent_computed : (kind : NameKind) → fits AnyFluent kind ≡ true → is_input kind ≡ false
fluent_computed name_kind.Input e = absurd (true≢false (sym e))
fluent_computed kind e = refl
