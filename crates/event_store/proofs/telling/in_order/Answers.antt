use Rattle.std.proofs.Common.{rules, ℕ, ◌≡◌, subst}
use Rattle.std.proofs.lemmas.List.Sorted.{answers_always}
use Rattle.event_store.specs.Words.{last_word}
use Rattle.event_store.proofs.Wording.{key, ordered_says}
use Rattle.event_store.proofs.telling.in_order.Goals as goal

pub returns : goal.returns
returns c = subst (λ told. (e t : ℕ) → last_word c.sort_by_key.new.self.items e t
    ≡ last_word told e t) c.in_ok-words.ensures.items
    (ordered_says c.in_ok-words.words.items c.sort_by_key.new.self.items
    (c.sort_by_key.ensures.stable key (answers_always _ _ _ (λ f a r g h. search rules))))
