use Rattle.std.proofs.Common.{◌∙◌, sym, rules, tests}
use Rattle.std.proofs.lemmas.Iterator.{YieldsList-from_slice}
use Rattle.std.proofs.lemmas.Iterator.Search.{any_from_yields_List}
use Rattle.std.specs.List.{list_any}
use Rattle.decl_known.specs.Rules.{clash}
use Rattle.decl_known.specs.Gathered.{place_of, places_of}
use Rattle.domain_decl.proofs.Loose.{any_of_places}
use Rattle.domain_decl.proofs.variables.has_clash.Goals as goal

pub returns : goal.returns
returns c =
    any_from_yields_List (λ one. list_any (clash (place_of one)) (places_of c.args.places.now)) _ _
    _ c.any.ensures.ran (YieldsList-from_slice c.args.places.now cc) (λ x b q k.
    search (rules, tests))
    ∙ sym (any_of_places (λ one. list_any (clash one) (places_of c.args.places.now))
    c.args.places.now)
