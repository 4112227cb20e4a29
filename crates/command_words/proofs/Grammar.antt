-- The command of `clap` by which words are read, as a parse has it.
use Rattle.std.proofs.Common.{◌≡◌, true, refl, List, [], ◌∷◌}
use Rattle.clap.specs.Walk.{Rule}
use Rattle.clap.specs.Simple.{Shape, built}
use Rattle.clap.specs.Faults.{is_simple_and_free}
use Rattle.command_words.specs.Matching.{grammar}
use Rattle.command_words.proofs.Shown.{places_built, workers_built, feeders_built, full_built}

abbrev pub top : Shape
top = (built grammar).top

abbrev pub rules : List Rule
rules = top.rules

pub is_plain : is_simple_and_free grammar ≡ true
is_plain = refl

pub no_subs : (built grammar).subs ≡ []
no_subs = refl

pub rules_are : rules ≡ places_built ∷ workers_built ∷ feeders_built ∷ full_built ∷ []
rules_are = refl
