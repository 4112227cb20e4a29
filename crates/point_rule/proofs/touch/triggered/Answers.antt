use Rattle.std.proofs.Common.{◌≡◌, ◌∙◌, ◌+◌, ℕ, false, refl, sym}
use Rattle.ground_types.specs.Truth.{happens}
use Rattle.point_rule.specs.Known.{known}
use Rattle.point_rule.proofs.Inside.{points_nowhere}
use Rattle.point_rule.proofs.touch.triggered.Goals as goal

pub returns-in-Fluent : goal.returns-in-Fluent
returns-in-Fluent c =
    let none : (t : ℕ) → happens (known c.args.cache.now.rows c.args.store.now)
    c.args.rule.now.trigger t ≡ false = λ t. rw (c.in-Derived.is, c.row.ensures, c.in-Fluent.is)
    refl in
    c.new.ensures ∙ sym (points_nowhere _ c.args.w c.args.q none)

pub returns-in-None : goal.returns-in-None
returns-in-None c =
    let none : (t : ℕ) → happens (known c.args.cache.now.rows c.args.store.now)
    c.args.rule.now.trigger t ≡ false = λ t. rw (
      c.in-Start.is,
      c.in-None.ensures.none t,
      c.in-None.ensures.none (t + 1),
    ) refl in
    c.new-in-None.ensures ∙ sym (points_nowhere _ c.args.w c.args.q none)

pub returns-in-None-row_of : goal.returns-in-None-row_of
returns-in-None-row_of c =
    let none : (t : ℕ) → happens (known c.args.cache.now.rows c.args.store.now)
    c.args.rule.now.trigger t ≡ false = λ t. rw (c.in-End.is, c.in-None-row_of.ensures.none t)
    refl in
    c.new-in-None-row_of.ensures ∙ sym (points_nowhere _ c.args.w c.args.q none)
