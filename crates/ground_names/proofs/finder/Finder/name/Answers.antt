use Rattle.std.proofs.Common.{◌≡◌, [], sym, ap, ap₂, subst, ◌∙◌}
use Rattle.ground_names.specs.Found.{Asked}
use Rattle.ground_names.specs.Reached.{how_far}
use Rattle.ground_names.proofs.SmallNumbers.{sound_small}
use Rattle.ground_names.proofs.Led.{HasSmall, begins}
use Rattle.ground_names.proofs.finder.Finder.name.Goals as goal

pub invariant_of-result : goal.invariant_of-result
invariant_of-result c =
    let asked : Asked = record { program = c.args.program.now; word = c.args.word.now; args = [] }
    in
    let is : asked ≡ c.noted.result.value =
    sym (c.noted.ensures ∙ ap₂ (λ p w. record { program = p; word = w; args = [] }) c.of.ensures
    c.noted_word.ensures) in (
      subst HasSmall is (sound_small c.args.program.now c.requires),
      c.begun.ensures
          ∙ begins c.args.program.now c.args.word.now ∙ ap how_far is,
    )
