use Rattle.std.proofs.Common.{◌≡◌, ◌<◌, ℕ, length, get_or, false, arith, subst, List}
use Rattle.admit_core.specs.Index.{stops, entry_at, IsFirst, IsWalk}
use Rattle.admit_core.proofs.Walks.{walk_before, none_stops}
use Rattle.admit_core.proofs.Table.{meets_free}
use Rattle.admit_core.proofs.index.place_of.Goals as goal

pub unreachable-requires : goal.unreachable-requires
unreachable-requires c =
    let h = c.args.history.now in
    let slots = c.args.slots.now in
    let s = c.start_of-start.result in
    let f = λ (slot : ℕ). stops c.args.event c.args.at (entry_at h slot) in
    meets_free _ slots h c.args.event c.args.at c.requires.index c.requires.free
    (none_stops f slots s (omega (arith, c.start_of-start.ensures.within))
    (subst (λ (xs : List ℕ). (q : ℕ) → q < length xs → f (get_or xs q 0) ≡ false)
    c.split_at.ensures.back c.in_default.ensures)
    (subst (λ (xs : List ℕ). (q : ℕ) → q < s → f (get_or xs q 0) ≡ false)
    c.split_at.ensures.front
    (λ q near. c.in-None.ensures q (omega (arith, c.split_at.ensures.front_len)))))

pub returns : goal.returns
returns c =
    let h = c.args.history.now in
    let slots = c.args.slots.now in
    let s = c.start_of-start.result in
    let f = λ (slot : ℕ). stops c.args.event c.args.at (entry_at h slot) in
    let place = c.in-Some-first_stop.place in
    let before = c.split_at.result.0.now in
    let first : IsFirst (length before) (λ q. f (get_or before q 0)) place =
    c.in-Some-first_stop.ensures in
    subst (λ (k : ℕ). IsWalk (length slots) k (λ q. f (get_or slots q 0)) place)
    c.start_of-start.ensures.value
    (walk_before f slots s (omega (arith, c.start_of-start.ensures.within)) place
    (subst (λ (xs : List ℕ). (q : ℕ) → q < length xs → f (get_or xs q 0) ≡ false)
    c.split_at.ensures.back c.in_default.ensures)
    (omega (arith, first.within, c.split_at.ensures.front_len))
    (subst (λ (xs : List ℕ). IsFirst (length xs) (λ q. f (get_or xs q 0)) place)
    c.split_at.ensures.front first))
