use Rattle.std.proofs.Common.{◌+◌, sym, ◌∙◌, ap, slice_get}
use Rattle.layer_cache.specs.Cached.{first_value_at}
use Rattle.delay_revise.proofs.Opening.{opening_later, no_opening, other_kind}
use Rattle.delay_revise.proofs.openings.opening_value.Goals as goal

pub returns-in-Simple-2 : goal.returns-in-Simple-2
returns-in-Simple-2 c = λ history same.
    opening_later c.args.program.now history c.args.k c.args.number c.args.unit.now
    c.in-Simple-2.initially c.in-Simple-2.initiate c.in-Simple-2.terminate c.args.cache.now.before
    c.opening.result c.requires.sound c.requires.small c.requires.unit c.in-Simple-2.is
    c.requires.size c.if-k-eq0.false same
    (c.opening.ensures.first
    ∙ ap (λ w. first_value_at (slice_get c.args.cache.now.before c.args.number) (w + 1))
    c.left.ensures)

pub returns-in_default : goal.returns-in_default
returns-in_default c = λ history same.
    sym (no_opening c.args.program.now history c.args.k c.args.number c.args.unit.now
    c.requires.sound c.requires.unit (other_kind c.args.unit.now.kind c.in_default.not-Simple))
