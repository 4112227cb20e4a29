use Rattle.std.proofs.Common.{◌++◌, ◌∷◌, [], map, set, get_or, ap, ◌∙◌}
use Rattle.ground_rules.proofs.Gathered.{grown_at, kept_past}
use Rattle.ground_rules.proofs.buckets.Buckets.push.Goals.{in-Some+in_ok-push, in_default}
use Rattle.ground_rules.proofs.buckets.Buckets.push.Goals as goal

pub returns : goal.returns
returns g c =
    let lists = c.self.inside.lists.items in
    let n = c.args.number in
    let with_item = ap (λ v. set v n (get_or v n [] ++ c.args.item ∷ [])) c.self.view_is in
    elim c.match-get_mut.branch [
      | in-Some+in_ok-push w ↦ (let h = w.in-Some.ensures.item in
          ap (λ s. map (λ l. l.items) s.lists.items) w.self-inside-is
          ∙ grown_at (λ l. l.items) lists n c.args.item w.in-Some.list.now w.push.new.self h.3.0
          h.1 w.in_ok-push.ensures.items
          ∙ with_item)
      | in_default w ↦ ap (λ s. map (λ l. l.items) s.lists.items) w.self-inside-is
          ∙ kept_past (λ l. l.items) lists n _ w.in_default.ensures.item.3
          ∙ with_item
    ]
