use Rattle.std.proofs.Common.{◌≡◌, [], ◌∷◌, ◌++◌, sym, ap, ap₂, subst, ◌∙◌}
use Rattle.ground_names.specs.Found.{Asked}
use Rattle.ground_names.specs.Reached.{how_far}
use Rattle.ground_names.proofs.Led.{HasSmall, further_from}
use Rattle.ground_names.proofs.finder.Finder.push.Goals as goal

pub invariant_of-self : goal.invariant_of-self
invariant_of-self c =
    let kept : Asked = c.self.inside.asked.value in
    let asked : Asked = record {
      program = kept.program;
      word = kept.word;
      args = kept.args ++ c.args.word.now ∷ [];
    } in
    let is : asked ≡ c.noted-2.result.value =
    sym (c.noted-2.ensures ∙ ap₂ (λ (a : Asked) w. record {
      program = a.program;
      word = a.word;
      args = a.args ++ w ∷ [];
    }) (ap (λ s. s.value) c.replace-before.ensures.value)
    c.noted_word.ensures) in
    let on = further_from kept c.args.self.now c.args.program.now c.self.inside.reached
    c.self.view_is c.requires.same c.self.invariant.0 c.self.invariant.1 c.args.word.now
    ∙ ap how_far is in
    (subst HasSmall is c.self.invariant.0, c.stepped-self-inside.ensures ∙ on)
