use Rattle.std.proofs.Common.{◌≡◌, ℕ, take}
use Rattle.ground_types.specs.Touched.{differs}
use Rattle.span_algebra.specs.Normal.{has}
use Rattle.event_store.specs.Standing.{standing}
use Rattle.event_store.specs.Words.{after_words}
use Rattle.event_store.proofs.store.EventStore.turned_by.Given as goal

abbrev pub invariant-loop-word : goal.invariant-loop-word
invariant-loop-word l = (e t : ℕ) → has (standing l.turned e) t
    ≡ differs (has (standing l.self e) t)
    (after_words (take l.word-index l.words) e t (has (standing l.self e) t))
